use Rattle.std.proofs.Common.{◌≡◌, find}
use Rattle.std.specs.Array.Iter.{array_into_iter_items}
use Rattle.std.specs.Str.{str_eq_ignore_ascii_case}
use Rattle.bench_reader.specs.Kinds.{kind_word_of, spelling}
use Rattle.bench_reader.proofs.kind.kind_word_of.Given as goal

abbrev pub invariant-loop-known : goal.invariant-loop-known
invariant-loop-known l =
    find (λ known. str_eq_ignore_ascii_case l.word (spelling known)) (array_into_iter_items l.known-iterator) ≡ kind_word_of l.word
