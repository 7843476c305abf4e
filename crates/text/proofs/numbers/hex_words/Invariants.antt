use Rattle.std.proofs.Common.{◌≡◌, vec_items}
use Rattle.text.specs.Split.{words}
use Rattle.text.specs.Numbers.{hex_words_of}
use Rattle.text.proofs.SpeltLaws.{prefixed}
use Rattle.text.proofs.numbers.hex_words.Given as goal

-- The words so far, and those that are left, are what the whole text spells.
abbrev pub invariant-loop-word : goal.invariant-loop-word
invariant-loop-word l = prefixed (vec_items l.values) (hex_words_of (words l.word-iterator.0.now)) ≡ hex_words_of (words l.text)
