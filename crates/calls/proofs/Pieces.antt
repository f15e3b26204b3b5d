-- Texts that go to err one behind another, as a line.
use Rattle.std.proofs.Common.{◌≡◌, ℕ, zero, suc, ◌+◌, ◌<◌, List, [], ◌∷◌, ◌++◌, length, get_or, take, drop, Result, Ok, Err, refl, sym, ap, subst, ◌∙◌, add-one, append_assoc, arith}
use Rattle.std.proofs.Math.ListN.{set}
use Rattle.std.proofs.lemmas.List.{append-nil, take_more, take_more_set}
use Rattle.std.specs.Prelude.{⊤}
use Rattle.pd_io.specs.Counts.{Rose}
use Rattle.pd_io.specs.Seen.{SinkSeen}
use Rattle.pd_io.specs.Whole.{TookPart}
use Rattle.pd_io.specs.declared.fault.FileFault.{FileFault}
use Rattle.pd_io.specs.declared.fault.FileFault.TheVariants.{Failed, NoMemory}
use Rattle.pd_io.proofs.Tellings.{tells_chain, tells_same, tells_weaker}
use Rattle.calls.specs.declared.part.Part.{Part}
use Rattle.calls.specs.Parts.{part_text, parts_text}
use Rattle.calls.specs.Reports.{HasPartOfLine, HasWholeLine, LineEnds}

-- nothing was written
pub none_written : (seen : SinkSeen) → HasWholeLine [] seen seen
none_written seen = record {
  taken = tells_same seen.taken (λ before after. after ≡ before ++ []) (λ taken. sym (append-nil taken));
  uncounted = refl;
}

none_in_front : (front rest : List ℕ) → front ++ rest ≡ [] → front ≡ []
none_in_front [] rest none = refl
none_in_front (byte ∷ front) rest none = cc

-- a part of a text is one of any text that begins with it
part_before : (text more old new : List ℕ) → TookPart text old new → TookPart (text ++ more) old new
part_before text more old new (front, rest, some, split, took) = (
  front,
  rest ++ more,
  (λ none. some (none_in_front rest more none)),
  ap (λ t. t ++ more) split ∙ append_assoc front rest more,
  took,
)

-- a whole text and a part of the next are a part of both
part_behind : (text next old mid new : List ℕ) → mid ≡ old ++ text → TookPart next mid new → TookPart (text ++ next) old new
part_behind text next old mid new whole (front, rest, some, split, took) = (
  text ++ front,
  rest,
  some,
  ap (λ t. text ++ t) split ∙ sym (append_assoc text front rest),
  took ∙ ap (λ t. t ++ front) whole ∙ append_assoc old text front,
)

module _ (text next : List ℕ) where
  -- a text that was not taken whole ends the line there
  pub cut_there : (fault : FileFault) (old new : SinkSeen) → LineEnds text (Err fault) old new → LineEnds (text ++ next) (Err fault) old new
  cut_there Failed old new ends = record {
    taken = tells_weaker old.taken new.taken (TookPart text) (TookPart (text ++ next)) ends.taken (part_before text next);
    rose = ends.rose;
  }
  cut_there (NoMemory _) old new ends = record {
    taken = tells_weaker old.taken new.taken (TookPart text) (TookPart (text ++ next)) ends.taken (part_before text next);
    uncounted = ends.uncounted;
  }

  -- behind a whole text a part of the next was taken
  part_of_next : (old mid new : SinkSeen) → HasWholeLine text old mid → HasPartOfLine next mid new → HasPartOfLine (text ++ next) old new
  part_of_next old mid new whole part =
      tells_chain old.taken mid.taken new.taken (λ before after. after ≡ before ++ text) (TookPart next) (TookPart (text ++ next))
      whole.taken part (part_behind text next)

  -- behind a whole text the next was written, or not
  pub then_written : (result : Result ⊤ FileFault) (old mid new : SinkSeen) → HasWholeLine text old mid → LineEnds next result mid new
      → LineEnds (text ++ next) result old new
  then_written (Ok done) old mid new whole ends = record {
    taken = tells_chain old.taken mid.taken new.taken (λ before after. after ≡ before ++ text) (λ before after. after ≡ before ++ next)
        (λ before after. after ≡ before ++ (text ++ next)) whole.taken ends.taken
        (λ x y z first then_next. then_next ∙ ap (λ t. t ++ next) first ∙ append_assoc x text next);
    uncounted = ends.uncounted ∙ whole.uncounted;
  }
  then_written (Err Failed) old mid new whole ends = record {
    taken = part_of_next old mid new whole ends.taken;
    rose = subst (λ (count : ℕ). Rose count new.faults) whole.uncounted ends.rose;
  }
  then_written (Err (NoMemory _)) old mid new whole ends = record {
    taken = part_of_next old mid new whole ends.taken;
    uncounted = ends.uncounted ∙ whole.uncounted;
  }

-- parts, as those before one, that one, and the others
pub parts_at : (parts : List Part) (place : ℕ) (d : Part) → place < length parts
    → parts_text parts ≡ parts_text (take place parts) ++ (part_text (get_or parts place d) ++ parts_text (drop (place + 1) parts))
parts_at [] place d inside = absurd (omega arith)
parts_at (part ∷ parts) zero d inside = refl
parts_at (part ∷ parts) (suc place) d inside =
    rw add-one (ap (λ t. part_text part ++ t) (rw add-one at (parts_at parts place d (omega arith)))
    ∙ sym (append_assoc (part_text part) (parts_text (take place parts)) (part_text (get_or parts place d) ++ parts_text (drop (suc place) parts))))

-- one part more
pub parts_up_to : (parts : List Part) (place : ℕ) (d : Part) → place < length parts
    → parts_text (take (place + 1) parts) ≡ parts_text (take place parts) ++ part_text (get_or parts place d)
parts_up_to [] place d inside = absurd (omega arith)
parts_up_to (part ∷ parts) zero d inside = append-nil (part_text part)
parts_up_to (part ∷ parts) (suc place) d inside =
    rw add-one (ap (λ t. part_text part ++ t) (rw add-one at (parts_up_to parts place d (omega arith)))
    ∙ sym (append_assoc (part_text part) (parts_text (take place parts)) (part_text (get_or parts place d))))

module _ (parts : List Part) (place : ℕ) (d : Part) (inside : place < length parts) (old mid new : SinkSeen)
    (before : HasWholeLine (parts_text (take place parts)) old mid) where
  -- a part that was not taken whole ends the line there
  pub part_cut : (fault : FileFault) → LineEnds (part_text (get_or parts place d)) (Err fault) mid new
      → LineEnds (parts_text parts) (Err fault) old new
  part_cut fault ends =
      subst (λ (text : List ℕ). LineEnds text (Err fault) old new) (sym (parts_at parts place d inside))
      (then_written (parts_text (take place parts)) (part_text (get_or parts place d) ++ parts_text (drop (place + 1) parts)) (Err fault) old mid
      new before (cut_there (part_text (get_or parts place d)) (parts_text (drop (place + 1) parts)) fault mid new ends))

  -- one more part was written
  pub part_written : HasWholeLine (part_text (get_or parts place d)) mid new → HasWholeLine (parts_text (take (place + 1) parts)) old new
  part_written whole =
      subst (λ (text : List ℕ). HasWholeLine text old new) (sym (parts_up_to parts place d inside))
      (then_written (parts_text (take place parts)) (part_text (get_or parts place d)) (Ok tt) old mid new before whole)

-- a part that is put behind those in front of an array
pub one_more_put : (array parts : List Part) (place : ℕ) (d : Part) → take place array ≡ take place parts → place < length array
    → place < length parts → take (place + 1) (set array place (get_or parts place d)) ≡ take (place + 1) parts
one_more_put array parts place d same room inside =
    take_more_set array place (get_or parts place d) room ∙ ap (λ front. front ++ get_or parts place d ∷ []) same
    ∙ sym (take_more parts place d inside)
