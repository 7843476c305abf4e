-- Words put into a buffer: the answer, and the whole buffer afterwards.
use Rattle.std.specs.Prelude.{ℕ, cond, List, [], ◌++◌, length, drop, ◌==◌, nat_le}
use Rattle.words.specs.Messages.{an_edit, message_words}
use Rattle.site.specs.Modes.{Reply, given, refused}
use Rattle.site.specs.Edits.{EditModel}

-- From the buffer's first word on, leaving the rest; or a refusal, where it is too short.
abbrev pub spelt : List ℕ → List ℕ → Reply ℕ × List ℕ
spelt ws buffer = cond (nat_le (length ws) (length buffer)) (given (length ws), ws ++ drop (length ws) buffer) (refused 10, buffer)

-- The words of an edit of site i; one that wrote nothing has none.
abbrev pub own_words : ℕ → EditModel → List ℕ
own_words i e = cond (length e.writes == 0) [] (message_words (an_edit i e.ticket e.snapshot e.writes))
