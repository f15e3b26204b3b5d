-- A walk never goes back above the root at which it began: what was assumed there still is, and going back to its mark restores the scope.
use Rattle.std.proofs.Common.{◌≡◌, ⊎_elim, ℕ, ◌<◌, ◌≤◌, List, [], ◌∷◌, ◌++◌, reverse, length, take, None, refl, sym, ap, ◌∙◌, subst, arith}
use Rattle.std.proofs.lemmas.Bool.{cases_lt, lt-ltb, le-ltb}
use Rattle.std.proofs.lemmas.List.{reverse-append, take-take, length-take-le}
use Rattle.netlist.specs.Circuit.{line_count}
use Rattle.implication.specs.Clients.{ExtendsStanding}
use Rattle.implication.specs.Moves.{conflict_at, back_at}
use Rattle.implication.specs.Settings.{IsSameSetting}
use Rattle.implication.specs.Standing.{Standing, IsTold}
use Rattle.implication.proofs.Restoring.{extends_itself, extends_trans}
use Rattle.refutation_check.specs.declared.walk.Pending.{Pending}
use Rattle.refutation_check.specs.Walks.{LeadBack, IsWalkFrom}
use Rattle.implication.proofs.Settings.{told_there}
use Rattle.refutation_check.proofs.SameSettings.{line_there}

-- what stands at the root is the setting of what goes on from it
setting_on : (root now : Standing) → ExtendsStanding root now → IsSameSetting root now
setting_on root now on = record { net = on.net; rules = on.rules; ends = on.ends }

setting_back : (root now : Standing) → ExtendsStanding root now → IsSameSetting now root
setting_back root now on = record { net = sym on.net; rules = sym on.rules; ends = sym on.ends }

-- what goes on from the root still does where it goes back, but not above the root
extends_back : (root now back : Standing) (mark : ℕ) → ExtendsStanding root now → length root.assumptions ≤ mark
    → mark ≤ length now.assumptions → back ≡ back_at now mark → ExtendsStanding root back
extends_back root now back mark on below within is =
    let P : Standing → Type 0 = λ s. ExtendsStanding root s in
    let long = length-take-le mark now.assumptions within in
    subst P (sym is) (record {
      net = on.net;
      rules = on.rules;
      ends = on.ends;
      beginning = on.beginning;
      longer = omega (arith, long, below);
      front = take-take (length root.assumptions) mark now.assumptions below ∙ on.front;
      conflict = ⊎_elim
          (λ (less : length root.assumptions < mark).
          let e = lt-ltb (length root.assumptions) (length (take mark now.assumptions)) (omega (arith, less, long)) in
          let f = lt-ltb (length root.assumptions) (length now.assumptions) (omega (arith, less, within)) in
          let here : None ≡ root.conflict = sym (rw f refl) ∙ on.conflict in rw e here)
          (λ (not : mark ≤ length root.assumptions).
          let same : length root.assumptions ≡ mark = omega (arith, not, below) in
          let e = le-ltb (length root.assumptions) (length (take mark now.assumptions)) (omega (arith, not, long)) in
          let here : conflict_at now mark ≡ root.conflict = ap (conflict_at now) (sym same) ∙ on.conflict in rw e here)
          (cases_lt (length root.assumptions) mark);
      later = on.later;
    })

-- one can go back from more assumptions too
lead_from_more : (root : Standing) (count more : ℕ) (list : List Pending) → count ≤ more → LeadBack root count list → LeadBack root more list
lead_from_more root count more [] fewer lead = tt
lead_from_more root count more (pending ∷ rest) fewer (leads, lead) = (
  record {
    before = let le = leads.before in omega (arith, le, fewer);
    not_above_root = leads.not_above_root;
    in_circuit = leads.in_circuit;
    told = leads.told;
  },
  lead,
)

-- the walk begins at its root
pub walk_begins : (root : Standing) (pending : List Pending) → pending ≡ [] → IsWalkFrom root root pending
walk_begins root pending none =
    let P : List Pending → Type 0 = λ list. IsWalkFrom root root list in
    subst P (sym none) (record { extends = extends_itself root; back = tt })

-- down into the first half of a split
pub root_down : (root old new : Standing) (pending more : List Pending) (second : Pending) → second.half.split.line.0 < line_count old.net
    → IsTold old second.half.split.line.0 → second.mark.at ≡ length old.assumptions → more ≡ pending ++ second ∷ [] → ExtendsStanding old new
    → IsWalkFrom root old pending → IsWalkFrom root new more
root_down root old new pending more second within told marked pushed extends walk =
    let P : List Pending → Type 0 = λ list. LeadBack root (length new.assumptions) list in
    let Q : ℕ → Type 0 = λ count. LeadBack root count (reverse pending) in
    let setting = setting_back root old walk.extends in
    record {
      extends = extends_trans root old new walk.extends extends;
      back = subst P (sym (ap (reverse {A = Pending}) pushed ∙ reverse-append pending (second ∷ []))) (
        record {
          before = let longer = extends.longer in omega (arith, marked, longer);
          not_above_root = let longer = walk.extends.longer in omega (arith, marked, longer);
          in_circuit = line_there old root setting second.half.split.line.0 within;
          told = told_there old root setting second.half.split.line.0 told;
        },
        subst Q (sym marked) walk.back,
      );
    }

module _ (root now : Standing) (next : Pending) (pending all : List Pending) (is : all ≡ pending ++ next ∷ []) (walk : IsWalkFrom root now all) where
  lead : LeadBack root (length now.assumptions) (next ∷ reverse pending)
  lead =
      let P : List Pending → Type 0 = λ list. LeadBack root (length now.assumptions) list in
      subst P (ap (reverse {A = Pending}) is ∙ reverse-append pending (next ∷ [])) walk.back

  -- the scope can go back to the mark of the half that was put off last
  pub mark_within : next.mark.at ≤ length now.assumptions
  mark_within = lead.0.before

  module _ (back : Standing) (goes : back ≡ back_at now next.mark.at) where
    extends_there : ExtendsStanding root back
    extends_there = extends_back root now back next.mark.at walk.extends lead.0.not_above_root lead.0.before goes

    -- its half is of a line of the circuit there, which is told
    pub line_within : next.half.split.line.0 < line_count back.net
    line_within = line_there root back (setting_on root back extends_there) next.half.split.line.0 lead.0.in_circuit

    pub told_within : IsTold back next.half.split.line.0
    told_within = told_there root back (setting_on root back extends_there) next.half.split.line.0 lead.0.told

    -- and round behind a leaf
    pub root_round : (new : Standing) → ExtendsStanding back new → IsWalkFrom root new pending
    root_round new extends =
        let long = ap (λ (s : Standing). length s.assumptions) goes ∙ length-take-le next.mark.at now.assumptions lead.0.before in
        let longer = extends.longer in
        record {
          extends = extends_trans root back new extends_there extends;
          back = lead_from_more root next.mark.at (length new.assumptions) (reverse pending) (omega (arith, long, longer)) lead.1;
        }
