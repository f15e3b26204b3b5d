-- A report, a proofs file and two summaries that were written by hand, as a guard of the definitions of their texts.
use Rattle.std.proofs.Common.{◌≡◌, ℕ, true, false, List, [], ◌∷◌, codes, refl, lit<}
use Rattle.std.proofs.lemmas.Fmt.{decimal_digit}
use Rattle.pd_base.specs.declared.ids.PinRef.{PinRef}
use Rattle.pd_base.specs.declared.fault.Direction.TheVariants.{Rise, Fall}
use Rattle.pd_base.specs.declared.fault.Kind.TheVariants as kind
use Rattle.pd_base.specs.declared.links.Links.{Links}
use Rattle.pd_base.specs.declared.rules.Rules.TheVariants.{One, Two, Linked}
use Rattle.netlist.specs.declared.kind.GateKind.TheVariants.{Not}
use Rattle.netlist.specs.Circuit.{Circuit}
use Rattle.runs.specs.declared.run.ListedPath.{ListedPath}
use Rattle.runs.specs.declared.run.Proof.{Proof}
use Rattle.runs.specs.declared.run.Run.{Run}
use Rattle.runs.specs.declared.run.Verdict.{Verdict}
use Rattle.runs.specs.declared.run.Verdict.TheVariants.{Robust, Nonrobust, Untestable, Aborted}
use Rattle.state_laws.specs.declared.split.SplitKind.{SplitKind}
use Rattle.state_laws.specs.declared.split.SplitKind.TheVariants.{LastValue, Steadiness, FirstValue}
use Rattle.trees.specs.declared.tree.Node.{Node}
use Rattle.trees.specs.declared.tree.Node.TheVariants.{Closed, Waiting, Split}
use Rattle.run_files.specs.ReportText.{report_text}
use Rattle.run_files.specs.ProofsText.{proofs_text}
use Rattle.run_files.specs.ProofsVersions.{version_of}
use Rattle.run_files.specs.Summary.{summary_text}

-- an input a, and an inverter n that is the output
abbrev inverter : Circuit
inverter = record {
  sources = codes "a" ∷ [];
  gates = record { name = codes "n"; kind = Not; pins = (record { 0 = 0 }) ∷ [] } ∷ [];
  outputs = (record { 0 = 1 }) ∷ [];
  flops = [];
}

-- the only pin of the inverter
abbrev step : PinRef
step = record { gate = record { 0 = 0 }; pin = 0 }

-- a path from the input through these steps, of length 7, with these verdicts
abbrev listed : List PinRef → Verdict → Verdict → ListedPath
listed steps rise fall =
    record { path = record { source = record { 0 = 0 }; steps = steps }; length = 7; rise = rise; fall = fall }

each_verdict : report_text inverter (listed (step ∷ []) (Nonrobust 1 1) (Untestable 2)
    ∷ listed (step ∷ step ∷ []) (Aborted 2 3) (Robust 2) ∷ listed [] (Robust 3) (Robust 4) ∷ [])
    ≡ codes "path,direction,length,source,steps,verdict,test,robust_proof,nonrobust_proof\n1,rise,7,a,n:0,nonrobust,1,1,-\n1,fall,7,a,n:0,untestable,-,-,2\n2,rise,7,a,n:0 n:0,aborted,-,2,3\n2,fall,7,a,n:0 n:0,robust,2,-,-\n3,rise,7,a,-,robust,3,-,-\n3,fall,7,a,-,robust,4,-,-\n"
each_verdict = rw (decimal_digit 0 (lit< tt), decimal_digit 1 (lit< tt), decimal_digit 2 (lit< tt), decimal_digit 3 (lit< tt), decimal_digit 4 (lit< tt), decimal_digit 7 (lit< tt)) refl

-- a refutation that is one closed leaf, and a spent tree of two splits
abbrev refutation : Proof
refutation = record {
  spent = false;
  kind = kind.Nonrobust;
  dir = Fall;
  path = 1;
  steps = 2;
  tree = Closed ∷ [];
}

abbrev at : SplitKind → ℕ → Node
at kind line = Split (record { line = record { 0 = line }; kind = kind })

abbrev spent : Proof
spent = record {
  spent = true;
  kind = kind.Robust;
  dir = Rise;
  path = 9;
  steps = 2;
  tree = at LastValue 0 ∷ Waiting ∷ at Steadiness 0 ∷ Closed ∷ Waiting ∷ [];
}

two_proofs : proofs_text (version_of inverter One (refutation ∷ spent ∷ [])) (refutation ∷ spent ∷ [])
    ≡ codes "pdfgen proofs 1\n1 refutes nonrobust fall 1 2 X\n2 spent robust rise 9 2 V0 O H0 X O\n"
two_proofs = rw (decimal_digit 0 (lit< tt), decimal_digit 1 (lit< tt), decimal_digit 2 (lit< tt), decimal_digit 9 (lit< tt)) refl

no_proofs_of_steady_sources : proofs_text (version_of inverter Two []) [] ≡ codes "pdfgen proofs 2\n"
no_proofs_of_steady_sources = refl

-- a refutation at a source without steps
abbrev at_the_source : Proof
at_the_source = record {
  spent = false;
  kind = kind.Nonrobust;
  dir = Rise;
  path = 2;
  steps = 0;
  tree = Closed ∷ [];
}

-- whatever is linked
proof_of_linked_sources : (links : Links) → proofs_text (version_of inverter (Linked links) (at_the_source ∷ [])) (at_the_source ∷ [])
    ≡ codes "pdfgen proofs 3\n1 refutes nonrobust rise 2 0 X\n"
proof_of_linked_sources links = rw (decimal_digit 0 (lit< tt), decimal_digit 1 (lit< tt), decimal_digit 2 (lit< tt)) refl

-- a refutation that splits at the inverter's line, under rules two and under linked ones, by first values, too
abbrev at_a_gate : SplitKind → Proof
at_a_gate kind = record at_the_source { tree = at kind 1 ∷ Closed ∷ Closed ∷ [] }

proof_at_lines : proofs_text (version_of inverter Two (at_a_gate LastValue ∷ [])) (at_a_gate LastValue ∷ [])
    ≡ codes "pdfgen proofs 4\n1 refutes nonrobust rise 2 0 V1 X X\n"
proof_at_lines = rw (decimal_digit 0 (lit< tt), decimal_digit 1 (lit< tt), decimal_digit 2 (lit< tt)) refl

proof_by_first_values : (links : Links) → proofs_text (version_of inverter (Linked links) (at_a_gate FirstValue ∷ [])) (at_a_gate FirstValue ∷ [])
    ≡ codes "pdfgen proofs 5\n1 refutes nonrobust rise 2 0 F1 X X\n"
proof_by_first_values links = rw (decimal_digit 0 (lit< tt), decimal_digit 1 (lit< tt), decimal_digit 2 (lit< tt)) refl

-- a run of these paths, as far as a summary counts it
abbrev run_of : List ListedPath → Run
run_of paths = record { rules = One; paths = paths; tests = []; proofs = [] }

nothing_counted : summary_text (run_of []) ≡ codes "paths 0 robust 0 nonrobust 0 untestable 0 aborted 0\n"
nothing_counted = rw (decimal_digit 0 (lit< tt)) refl

both_transitions_counted : summary_text (run_of (listed [] (Robust 1) (Untestable 1) ∷ listed [] (Untestable 1) (Nonrobust 2 2) ∷ []))
    ≡ codes "paths 2 robust 1 nonrobust 1 untestable 2 aborted 0\n"
both_transitions_counted = rw (decimal_digit 0 (lit< tt), decimal_digit 1 (lit< tt), decimal_digit 2 (lit< tt)) refl
