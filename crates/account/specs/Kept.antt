-- Commits as the accountant keeps them.
use Rattle.std.specs.Prelude.{vec_items}
use Rattle.account.specs.declared.certify.Kept.{Kept}
use Rattle.account.specs.Account.{Committed, a_commit}

abbrev pub committed : Kept → Committed
committed k = a_commit k.home k.ticket (vec_items k.writes)
