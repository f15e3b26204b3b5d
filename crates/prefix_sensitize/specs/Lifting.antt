-- What it is to lift a refutation to a shorter prefix, in words that are spoken inside this crate alone (this project's own).
use Rattle.std.specs.Prelude.{◌≡◌, ℕ, ◌<◌, ◌≤◌, false, List, [], ◌∷◌, ◌++◌, length, take, drop, All}
use Rattle.pd_base.specs.Route.{Route}
use Rattle.pd_base.specs.declared.ids.PinRef.{PinRef}
use Rattle.netlist.specs.Paths.{IsPrefixOf}
use Rattle.runs.specs.declared.run.Proof.{Proof}
use Rattle.trees.specs.declared.tree.Node.{Node}
use Rattle.implication.specs.Standing.{Standing}
use Rattle.good_runs.specs.Faults.{IsAbout, IsNumber}
use Rattle.prefix_sensitize.specs.declared.course.Course.{Course}
use Rattle.prefix_sensitize.specs.declared.outcome.Findings.{Findings}
use Rattle.prefix_sensitize.specs.Coming.{HasComeAlong}
use Rattle.prefix_sensitize.specs.Outcomes.{KeepsOthers}
use Rattle.prefix_sensitize.specs.PathOrder.{IsStretch, StandsInOrder}
use Rattle.prefix_sensitize.specs.Settling.{AddsProof, found_proof}

-- a proof is under a prefix: it is about the aim, and the listed path that it names has the prefix
pub record IsUnderPrefix (course : Course) (prefix : Route) (proof : Proof) : Type 0 where
  pub about : IsAbout course.aim.kind course.aim.direction proof
  pub listed : Route
  pub is_listed : IsNumber course.paths.now proof.path listed
  pub has_prefix : IsPrefixOf prefix listed

-- the path that a proof names is listed
pub record NamesPath (routes : List Route) (proof : Proof) : Type 0 where
  pub listed : Route
  pub is_listed : IsNumber routes proof.path listed

-- none of the first proofs, so many, is under the prefix
pub record NoneIsUnder (course : Course) (prefix : Route) (proofs : List Proof) (kept : ℕ) : Type 0 where
  pub few : kept ≤ length proofs
  pub none_under : All (λ proof. ¬ IsUnderPrefix course prefix proof) (take kept proofs)

-- none of the first proofs, so many, is under the prefix; there are some behind them, and all of those are
pub record ArePartedAt (course : Course) (prefix : Route) (proofs : List Proof) (kept : ℕ) : Type 0 where
  pub some : kept < length proofs
  pub none_under : All (λ proof. ¬ IsUnderPrefix course prefix proof) (take kept proofs)
  pub all_under : All (IsUnderPrefix course prefix) (drop kept proofs)

-- A refutation of the prefix, which has so many steps, by this tree replaced the proofs under it, which stood last. It is the outcome of
-- all paths that have the prefix: they stand up to the place `end`.
pub record Replaces (course : Course) (prefix : Route) (steps end : ℕ) (tree : List Node) (old new : Findings) : Type 0 where
  pub kept : ℕ
  pub parted : ArePartedAt course prefix old.proofs.items kept
  pub start : ℕ
  pub no_earlier : (at row : ℕ) (route : Route) → StandsInOrder course.paths.now course.order.now at row route → IsPrefixOf prefix route
      → start ≤ at
  pub least : ℕ
  pub stretch : IsStretch course.paths.now course.order.now prefix start end least
  pub adds : AddsProof course.order.now start end (found_proof course.aim false least steps tree) old.outcomes.items new.outcomes.items
      (take kept old.proofs.items) new.proofs.items

-- A refutation by the tree of the proof that was found last replaced those under the prefix, or nothing changed.
pub data ReplacesOrStays (course : Course) (place : ℕ) (prefix : Route) (steps end : ℕ) (old new : Findings) : Type 0 where
  stays : end ≡ place → new ≡ old → ReplacesOrStays course place prefix steps end old new
  replaces : (front : List Proof) (last : Proof) → old.proofs.items ≡ front ++ last ∷ []
      → Replaces course prefix steps end last.tree old new → ReplacesOrStays course place prefix steps end old new

-- the walk has come to this place, for some counts of steps: where the count stood when the walk began, and where it stands now
pub record HasComeTo (standing : Standing) (course : Course) (place : ℕ) (pins : List PinRef) (found : Findings) : Type 0 where
  pub begin : ℕ
  pub steps : ℕ
  pub come : HasComeAlong standing course begin place pins found steps

-- Where the walk had come to one place, whatever the counts of steps, it has come to another one, with the same counts. That place is no
-- earlier, and not beyond the order; and the proofs about other aims stand as before.
pub record HasLiftedTo (old new : Standing) (course : Course) (place end : ℕ) (first pins : List PinRef) (before after : Findings)
    : Type 0 where
  pub come : (begin steps : ℕ) → HasComeAlong old course begin place first before steps
      → HasComeAlong new course begin end pins after steps
  pub farther : place ≤ end
  pub within : end ≤ length course.order.now
  pub others : KeepsOthers course.aim before.proofs.items after.proofs.items
