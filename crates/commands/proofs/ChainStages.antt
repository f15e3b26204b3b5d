-- SCAN behind stages that were passed with NET in front, whichever they are: what is passed with it, how the call ends there, and what the
-- files tell of it is accepted.
use Rattle.std.proofs.Common.{◌≡◌, ℕ, ◌≤◌, List, [], ◌∷◌, ◌++◌, length, Some, refl, sym, ap, subst, ◌∙◌, append_assoc}
use Rattle.pd_base.specs.Memory.{out_of_memory}
use Rattle.pd_base.specs.declared.ids.LineId.{LineId}
use Rattle.pd_io.specs.Folder.{Folder, bytes_at}
use Rattle.pd_io.specs.Seen.{FilesSeen}
use Rattle.netlist.specs.Circuit.{Circuit}
use Rattle.bench_reader.specs.Circuits.{HasCircuit}
use Rattle.bench_reader.proofs.Answering.{one_circuit}
use Rattle.scan_order.specs.ScanFile.{HasChains}
use Rattle.scan_order.specs.ScanRefusals.{RefusesScan}
use Rattle.scan_order.specs.declared.scan_fault.ScanFault.{ScanFault}
use Rattle.scan_order.specs.declared.scan_fault.ScanFault.TheVariants as fault
use Rattle.scan_order.proofs.ScanLaws.{scan_not_refused}
use Rattle.calls.specs.declared.ending.Ending.{Ending}
use Rattle.calls.specs.declared.ending.Ending.TheVariants.{NoMemory, Refused}
use Rattle.calls.specs.declared.refusal.Refusal.{Refusal}
use Rattle.calls.specs.declared.role.Role.TheVariants as role
use Rattle.calls.specs.Work.{Stage, Read, Require}
use Rattle.calls.specs.Passing.{Accepts, HasPassed, Pass}
use Rattle.calls.specs.Stopping.{Stops}
use Rattle.calls.proofs.Stages.{then_required}
use Rattle.commands.specs.declared.inputs.reading.TheConstants.{INPUT_LIMIT}
use Rattle.commands.specs.InputRefusals.{scan_ending}
use Rattle.commands.specs.InputRequirements.{HasNoChains, HasNoChainsFor, InputCommand, Requirement, SpellsChains, WithinLimit, input_at, scan_stages, work_on_inputs}
use Rattle.commands.specs.Inside.InputJudging.{EndsForScan, FailsChains, FailsToGiveChains, GivesChains}
use Rattle.commands.specs.Inside.InputJudging as judging
use Rattle.commands.proofs.StageReads.{accepts_size, stops_judged, stops_unwhole, then_whole}

-- the input behind these is the last
at_end : (inputs : List (List ℕ)) (text : List ℕ) → input_at (inputs ++ text ∷ []) (length inputs) ≡ text
at_end [] text = refl
at_end (input ∷ inputs) text = at_end inputs text

-- a fault of a scan file ends the call so
told_so : (c : Circuit) (scan : List ℕ) (fault : ScanFault) → RefusesScan c scan fault → FailsChains c scan (scan_ending c fault)
told_so c scan (fault.Unknown place) refuses =
    judging.refused _ refl (record { fault = fault.Unknown place; refused = refuses; is = refl })
told_so c scan (fault.Twice place) refuses =
    judging.refused _ refl (record { fault = fault.Twice place; refused = refuses; is = refl })
told_so c scan (fault.Missing flop) refuses =
    judging.refused _ refl (record { fault = fault.Missing flop; refused = refuses; is = refl })
told_so c scan (fault.NoMemory _) refuses = judging.no_memory refl

pub chains_judged : (c : Circuit) (scan : List ℕ) (fault : ScanFault) (ending : Ending) → RefusesScan c scan fault
    → EndsForScan c fault ending → FailsChains c scan ending
chains_judged c scan fault ending refuses (judging.scan_told is) = subst (FailsChains c scan) (sym is) (told_so c scan fault refuses)
chains_judged c scan fault ending refuses (judging.scan_untold is) = judging.no_memory is

-- a text that has chains of the circuit is not refused
chains_not_refused : (c : Circuit) (scan : List ℕ) (chains : List (List LineId)) (refusal : Refusal) → HasChains c scan chains
    → ¬ HasNoChainsFor c scan refusal
chains_not_refused c scan chains refusal has it =
    let never : NoMemory out_of_memory ≡ Refused refusal =
    sym (ap (λ (fault : ScanFault). scan_ending c fault) (scan_not_refused c scan chains it.fault has it.refused)) ∙ it.is in
    absurd cc

module _ (command : InputCommand) (net : List ℕ) (later : List (List ℕ)) (c : Circuit) (has : HasCircuit net c) (name : List ℕ) (place : ℕ)
    (behind_all : place ≡ length (net ∷ later)) where
  -- SCAN is found at its place
  found : (scan : List ℕ) → input_at ((net ∷ later) ++ scan ∷ []) place ≡ scan
  found scan = ap (λ (n : ℕ). input_at ((net ∷ later) ++ scan ∷ []) n) behind_all ∙ at_end (net ∷ later) scan

  -- it gives chains
  pub accepts_chains : (scan : List ℕ) (chains : List (List LineId)) → HasChains c scan chains
      → Accepts (work_on_inputs command) (SpellsChains place) ((net ∷ later) ++ scan ∷ [])
  accepts_chains scan chains has_chains refusal refuses =
      let it = subst (λ (text : List ℕ). HasNoChains net text refusal) (found scan) refuses in
      chains_not_refused c scan chains refusal has_chains
      (subst (λ (d : Circuit). HasNoChainsFor d scan refusal) (one_circuit net it.circuit c it.has has) it.none)

  module _ (stages : List (Stage (Requirement command.Own))) (old mid new : FilesSeen)
      (before : HasPassed (work_on_inputs command) stages (net ∷ later) old mid) where
    -- reading it, and requiring chains of it, one by one
    one_by_one : ((stages ++ Read role.Scan name ∷ []) ++ Require (WithinLimit role.Scan) ∷ []) ++ Require (SpellsChains place) ∷ []
        ≡ stages ++ scan_stages place name
    one_by_one =
        append_assoc (stages ++ Read role.Scan name ∷ []) (Require (WithinLimit role.Scan) ∷ []) (Require (SpellsChains place) ∷ [])
        ∙ append_assoc stages (Read role.Scan name ∷ []) (Require (WithinLimit role.Scan) ∷ Require (SpellsChains place) ∷ [])

    read_first : (stages ++ Read role.Scan name ∷ []) ++ Require (WithinLimit role.Scan) ∷ []
        ≡ stages ++ Read role.Scan name ∷ Require (WithinLimit role.Scan) ∷ []
    read_first = append_assoc stages (Read role.Scan name ∷ []) (Require (WithinLimit role.Scan) ∷ [])

    -- SCAN gives no chains
    pub chains_fail : (behind : List (Stage (Requirement command.Own))) → command.stages ≡ stages ++ (scan_stages place name ++ behind)
        → (ending : Ending) → FailsToGiveChains name c ending mid new → Stops (work_on_inputs command) ending old new
    chains_fail behind is ending (judging.not_read fails) =
        stops_unwhole command role.Scan name ending before (
          Require (SpellsChains place) ∷ behind,
          is
              ∙ sym (append_assoc stages (Read role.Scan name ∷ Require (WithinLimit role.Scan) ∷ []) (Require (SpellsChains place) ∷ behind))
              ∙ ap (λ (front : List (Stage (Requirement command.Own))). front ++ Require (SpellsChains place) ∷ behind) (sym read_first),
        ) fails
    chains_fail behind is ending (judging.gives_none file read fails) =
        stops_judged command (SpellsChains place) (HasNoChainsFor c file.items) ending (then_whole command role.Scan name file before read) (
          behind,
          is
              ∙ sym (append_assoc stages (scan_stages place name) behind)
              ∙ ap (λ (front : List (Stage (Requirement command.Own))). front ++ behind) (sym one_by_one),
        )
        (λ refusal why.
        subst (λ (text : List ℕ). HasNoChains net text refusal) (sym (found file.items)) (record { circuit = c; has = has; none = why })) fails

    -- it was read and judged
    pub chains_passed : (chains : List (List LineId)) (gives : GivesChains name c chains mid new)
        → HasPassed (work_on_inputs command) (stages ++ scan_stages place name) ((net ∷ later) ++ gives.text.items ∷ []) old new
    chains_passed chains gives =
        subst (λ (front : List (Stage (Requirement command.Own))).
        HasPassed (work_on_inputs command) front ((net ∷ later) ++ gives.text.items ∷ []) old new) one_by_one
        (then_required (work_on_inputs command) (SpellsChains place) (then_whole command role.Scan name gives.text before gives.read)
        (accepts_chains gives.text.items chains gives.holds))

  -- what the files tell of it is accepted, and what follows is passed
  pub chains_pass : (told : Folder) (behind : List (Stage (Requirement command.Own))) (all : List (List ℕ)) (chains : List (List LineId))
      → HasChains c (bytes_at told.held name) chains → length (bytes_at told.held name) ≤ INPUT_LIMIT
      → Pass (work_on_inputs command) (Some told) behind ((net ∷ later) ++ bytes_at told.held name ∷ []) all
      → Pass (work_on_inputs command) (Some told) (scan_stages place name ++ behind) (net ∷ later) all
  chains_pass told behind all chains has_chains within rest = (
    bytes_at told.held name,
    refl,
    (
      accepts_size command role.Scan (net ∷ later) (bytes_at told.held name) within,
      (accepts_chains (bytes_at told.held name) chains has_chains, rest),
    ),
  )
