-- What a program ends with.
use Rattle.std.specs.Prelude.{◌≡◌, ℕ, Ok, Err, Result, IsErr}
use Rattle.anyhow.specs.declared.error.Error.{Error}

-- The status that the work's outcome gives: 0 where it was done, 1 where it was not.
abbrev pub status_of : {A : Type 0} → Result A Error → ℕ
status_of (Ok a) = 0
status_of (Err e) = 1

-- What a line gave is handed on, and where it gave nothing there is an error.
abbrev pub HandsOn : {A D : Type 0} → Result A D → Result A Error → Type 0
HandsOn (Ok a) result = result ≡ Ok a
HandsOn (Err reason) result = IsErr result
