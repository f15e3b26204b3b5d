-- How many changes lines have together: one more line adds its own, and no lines of a list have more than the whole list. So
-- where a list as a whole has few, and each line by itself, none is too much.
use Rattle.std.proofs.Common.{◌≡◌, ℕ, zero, suc, ◌+◌, ◌<◌, ◌≤◌, List, [], ◌∷◌, ◌++◌, length, get_or, refl, sym, ap, subst, ◌∙◌, append_assoc, arith, sum_by}
use Rattle.std.specs.List.{All, AllZip}
use Rattle.std.proofs.lemmas.List.Sums.{sum_by-cons, sum_by_push}
use Rattle.std.proofs.lemmas.List.{get_or_at, length-append}
use Rattle.netlist.specs.Waves.{Wave}
use Rattle.delay_replay.specs.declared.gate.TheConstants.{MOST_CHANGES}
use Rattle.delay_replay.specs.Changes.{Changes, AreChangesOf, ChangesOver}
use Rattle.delay_replay.specs.declared.line_waves.TheConstants.{MOST_CHANGES_OF_ALL}
use Rattle.delay_replay.specs.ChangeLimits.{HaveChanges, NoneTooMuch}
use Rattle.delay_replay.specs.ChangeLimits.IsTooMuch.{by_itself, together}
use Rattle.delay_replay.proofs.ChangeTimes.{same_count}

module _ {X Y : Type 0} (R : X → Y → Type 0) where
  -- a relation that holds at one more place
  zip_push : (xs : List X) (ys : List Y) (x : X) (y : Y) → AllZip R xs ys → R x y → AllZip R (xs ++ x ∷ []) (ys ++ y ∷ [])
  zip_push [] [] x y all one = (one, tt)
  zip_push [] (other ∷ ys) x y all one = absurd all
  zip_push (other ∷ xs) [] x y all one = absurd all
  zip_push (x' ∷ xs) (y' ∷ ys) x y all one = (all.0, zip_push xs ys x y all.1 one)

  -- a relation that holds at each place
  pub zip_from_places : (xs : List X) (ys : List Y) → length xs ≡ length ys
      → ((k : ℕ) (d : X) (e : Y) → k < length xs → R (get_or xs k d) (get_or ys k e)) → AllZip R xs ys
  zip_from_places [] [] same each = tt
  zip_from_places [] (y ∷ ys) same each = absurd (omega arith)
  zip_from_places (x ∷ xs) [] same each = absurd (omega arith)
  zip_from_places (x ∷ xs) (y ∷ ys) same each = (
    each zero x y (omega arith),
    zip_from_places xs ys (omega arith) (λ k d e within. each (suc k) d e (omega arith)),
  )

-- how many changes are kept
abbrev count : Changes → ℕ
count own = length own.times

module _ (wave : ℕ → Wave) where
  -- the changes of a line
  abbrev AreOf : ℕ → Changes → Type 0
  AreOf line own = AreChangesOf (wave line) own

  -- one more line adds its changes
  pub one_line_more : (lines : List ℕ) (line total : ℕ) (own : Changes) → HaveChanges wave lines total
      → AreChangesOf (wave line) own → HaveChanges wave (lines ++ line ∷ []) (total + length own.times)
  one_line_more lines line total own have are = record {
    changes = have.changes ++ own ∷ [];
    each = zip_push AreOf lines have.changes line own have.each are;
    sum = sum_by_push count have.changes own ∙ ap (λ n. n + length own.times) have.sum;
  }

  -- the first lines have no more changes than all have
  front_sum : (front rest : List ℕ) (one all : List Changes) → AllZip AreOf front one → AllZip AreOf (front ++ rest) all
      → sum_by count one ≤ sum_by count all
  front_sum [] rest [] all are too = omega arith
  front_sum [] rest (own ∷ one) all are too = absurd are
  front_sum (line ∷ front) rest [] all are too = absurd are
  front_sum (line ∷ front) rest (own ∷ one) [] are too = absurd too
  front_sum (line ∷ front) rest (own ∷ one) (other ∷ all) are too =
      let same = same_count (wave line) own other are.0 too.0 in
      let fewer = front_sum front rest one all are.1 too.1 in
      omega (arith, sum_by-cons count own one, sum_by-cons count other all)

  pub front_total : (front rest : List ℕ) (part total : ℕ) → HaveChanges wave front part
      → HaveChanges wave (front ++ rest) total → part ≤ total
  front_total front rest part total have too =
      let fewer = front_sum front rest have.changes too.changes have.each too.each in omega (arith, have.sum, too.sum)

  -- where each line has few changes and all have few together, no line is too much
  pub none_too_much : (lines : List ℕ) (total : ℕ) → All (λ line. ChangesOver (wave line) MOST_CHANGES → ⊥) lines
      → HaveChanges wave lines total → total ≤ MOST_CHANGES_OF_ALL → NoneTooMuch wave lines
  none_too_much lines total few have upto earlier line later at (by_itself over) =
      let P : ℕ → Type 0 = λ other. ChangesOver (wave other) MOST_CHANGES → ⊥ in
      let all = subst (All P) (sym at) few in
      let long = length-append earlier (line ∷ later) in
      subst P (get_or_at earlier line later line (length earlier) refl) (all (length earlier) line (omega arith)) over
  none_too_much lines total few have upto earlier line later at (together part own more) =
      let whole = subst (λ l. HaveChanges wave l total) (sym (append_assoc earlier (line ∷ []) later ∙ at)) have in
      let fewer = front_total (earlier ++ line ∷ []) later part total own whole in
      omega arith
