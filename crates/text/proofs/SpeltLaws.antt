-- Words spelt so far, before those that are left.
use Rattle.std.proofs.Common.{ℕ, List, ◌++◌, Some, None, Option}

-- Words that stand before others.
abbrev pub prefixed : List ℕ → Option (List ℕ) → Option (List ℕ)
prefixed done (Some vs) = Some (done ++ vs)
prefixed done None = None
