-- For functions that take a scope: going on keeps what was, and closing a scope made within another restores the other.
use Rattle.std.proofs.Common.{◌≡◌, ◌<◌, ◌≤◌, ⊎_elim, [], ◌∷◌, ◌++◌, length, take, None, refl, sym, ap, ◌∙◌, subst, arith}
use Rattle.std.proofs.lemmas.Bool.{cases_lt, lt-ltb, le-ltb}
use Rattle.std.proofs.lemmas.List.{take-take, take_all, length_push}
use Rattle.std.proofs.Math.Seq.{take-append_seam}
use Rattle.state_sets.specs.declared.algebra.Algebra.{Ghosts as AlgebraGhosts}
use Rattle.implication.specs.declared.setting.Setting.{Ghosts as SettingGhosts}
use Rattle.implication.specs.declared.scope.Scope.{Scope}
use Rattle.implication.specs.declared.assumption.Origin.{Origin}
use Rattle.implication.specs.declared.assumption.Origin.TheVariants.{Within}
use Rattle.implication.specs.declared.assumption.Assumption.{Assumption}
use Rattle.implication.specs.Standing.{Standing}
use Rattle.implication.specs.Moves.{conflict_at, back_at, left_behind}
use Rattle.implication.specs.Clients.{IsRestored, ExtendsStanding}
use Rattle.implication.specs.Scopes.{IsSameScope}

-- nothing was added
pub extends_itself : (standing : Standing) → ExtendsStanding standing standing
extends_itself s = record {
  net = refl;
  rules = refl;
  ends = refl;
  beginning = refl;
  longer = omega arith;
  front = take_all (length s.assumptions) s.assumptions (omega arith);
  conflict = rw (le-ltb (length s.assumptions) (length s.assumptions) (omega arith)) refl;
  later = omega arith;
}

-- what is restored extends what was
pub extends_restored : (old new : Standing) → IsRestored old new → ExtendsStanding old new
extends_restored old new is = record {
  net = is.net;
  rules = is.rules;
  ends = is.ends;
  beginning = is.beginning;
  longer = let e = ap length is.assumptions in omega arith;
  front = rw is.assumptions (take_all (length old.assumptions) old.assumptions (omega arith));
  conflict = rw (is.assumptions, is.conflict, le-ltb (length old.assumptions) (length old.assumptions) (omega arith)) refl;
  later = is.later;
}

-- closing a scope that was made within another restores the other
pub closed_restores : (old last new : Standing) (origin : Origin) → origin ≡ Within (length old.assumptions) → ExtendsStanding old last
    → new ≡ left_behind origin last → IsRestored old new
closed_restores old last new origin made extends is =
    let P : Standing → Type 0 = λ s. IsRestored old s in
    let e : new ≡ back_at last (length old.assumptions) = is ∙ ap (λ o. left_behind o last) made in
    subst P (sym e) (record {
      net = extends.net;
      rules = extends.rules;
      ends = extends.ends;
      beginning = extends.beginning;
      assumptions = extends.front;
      conflict = extends.conflict;
      later = extends.later;
    })

-- what goes on from what went on goes on
pub extends_trans : (first middle last : Standing) → ExtendsStanding first middle → ExtendsStanding middle last → ExtendsStanding first last
extends_trans first middle last one two = record {
  net = two.net ∙ one.net;
  rules = two.rules ∙ one.rules;
  ends = two.ends ∙ one.ends;
  beginning = two.beginning ∙ one.beginning;
  longer = omega (arith, one.longer, two.longer);
  front = sym (take-take (length first.assumptions) (length middle.assumptions) last.assumptions one.longer)
      ∙ ap (take (length first.assumptions)) two.front ∙ one.front;
  conflict = ⊎_elim
      (λ (less : length first.assumptions < length middle.assumptions).
      let e = lt-ltb (length first.assumptions) (length middle.assumptions) less in
      let f = lt-ltb (length first.assumptions) (length last.assumptions) (omega (arith, less, two.longer)) in
      let here : None ≡ first.conflict = sym (rw e refl) ∙ one.conflict in rw f here)
      (λ (not : length middle.assumptions ≤ length first.assumptions).
      let same : length first.assumptions ≡ length middle.assumptions = omega (arith, not, one.longer) in
      let e = le-ltb (length first.assumptions) (length middle.assumptions) not in
      let here : middle.conflict ≡ first.conflict = sym (rw e refl) ∙ one.conflict in
      ap (conflict_at last) same ∙ two.conflict ∙ here)
      (cases_lt (length first.assumptions) (length middle.assumptions));
  later = omega (arith, one.later, two.later);
}

-- the same scope twice is the same scope
pub same_scope_twice : {A S : Type 0} {a : AlgebraGhosts A} {s : SettingGhosts S} {first middle last : Scope A S a s}
    → IsSameScope first middle → IsSameScope middle last → IsSameScope first last
same_scope_twice one two = record { engine = two.engine ∙ one.engine; origin = two.origin ∙ one.origin }

-- one assumption more, where no conflict stood
pub extends_by_one : (old new : Standing) (entry : Assumption) → old.conflict ≡ None → new.net ≡ old.net
    → new.rules ≡ old.rules → new.ends ≡ old.ends → new.beginning ≡ old.beginning → new.assumptions ≡ old.assumptions ++ entry ∷ []
    → old.closings ≤ new.closings → ExtendsStanding old new
extends_by_one old new entry free net rules ends beginning grown later =
    let longer : length old.assumptions < length new.assumptions =
    let e = ap length grown in let f = length_push old.assumptions entry in omega arith in
    record {
      net = net;
      rules = rules;
      ends = ends;
      beginning = beginning;
      longer = omega (arith, longer);
      front = ap (take (length old.assumptions)) grown ∙ take-append_seam old.assumptions (entry ∷ []);
      conflict = let e = lt-ltb (length old.assumptions) (length new.assumptions) longer in rw e (sym free);
      later = later;
    }
