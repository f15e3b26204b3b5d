-- What a call of compact left that was done: in NET and REPORT what it found there, and in OUT tests of which none can be left out.
use Rattle.std.proofs.Common.{◌≡◌, ◌≢◌, Result, Err, ℕ, ◌*◌, ◌≤◌, List, [], ◌∷◌, ◌++◌, length, All, AllPairs, None, Ok, Option, Some, codes, take, refl, sym, ap, subst, ◌∙◌, arith}
use Rattle.std.proofs.lemmas.Nat.{mul-le}
use Rattle.pd_base.specs.declared.limits.TheConstants.{MOST_BYTES}
use Rattle.pd_base.specs.declared.test.Test.{Test}
use Rattle.pd_io.specs.Folder.{Contents, Folder, bytes_at}
use Rattle.pd_io.specs.Telling.{Tells}
use Rattle.pd_io.proofs.OpenFile.{bytes_at-put}
use Rattle.netlist.specs.Circuit.{Circuit}
use Rattle.bench_reader.specs.Circuits.{HasCircuit}
use Rattle.runs.specs.Lawful.{IsLawfulTest}
use Rattle.runs.specs.declared.run.ListedPath.{ListedPath}
use Rattle.test_grade.specs.Compacted.{IsCompacted}
use Rattle.test_grade.specs.Serving.{Serves}
use Rattle.run_files.specs.TestsText.{tests_text}
use Rattle.command_line.specs.CompactForm.{compact_call, compact_form}
use Rattle.command_line.specs.Reading.{Texts, accepted_texts, then_taken}
use Rattle.command_line.specs.Words.{Call, CompactCall, asked_call, compact}
use Rattle.command_line.specs.declared.refusal.WordsRefusal.{WordsRefusal}
use Rattle.command_line.proofs.Asking.{all_texts_there}
use Rattle.command_line.proofs.NamesApart.{files_apart}
use Rattle.calls.specs.declared.role.Role.TheVariants as role
use Rattle.calls.specs.Passing.{Pass}
use Rattle.calls.specs.Work.{Products, names_read}
use Rattle.calls.specs.Writing.{put_all}
use Rattle.commands.specs.Compact.{GivesCompact, GivesKept, compact_stages, compact_work, out_due}
use Rattle.commands.specs.CompactLaws.{WasLeftByCompact}
use Rattle.commands.specs.Grading.{CanBeGraded, ExpectsValues}
use Rattle.commands.specs.LaterCalls.{IsLeftBy}
use Rattle.commands.specs.SpelledRuns.{SpellsReport}
use Rattle.commands.specs.declared.inputs.reading.TheConstants.{INPUT_LIMIT}
use Rattle.commands.proofs.FilesLeft.{bytes_at-put_other}
use Rattle.commands.proofs.GenLeft.{not_over}
use Rattle.commands.proofs.KeptTests.{all_left, fewer_left, shorter_text}
use Rattle.commands.proofs.TestCounts.{few_tests}

-- the names of the files of a call, in the order of the words
abbrev file_names : CompactCall → List (List ℕ)
file_names call = call.net ∷ call.tests ∷ call.report ∷ call.out ∷ []

-- no two of them are the same
abbrev HasFilesApart : CompactCall → Type 0
HasFilesApart call = AllPairs (λ a b. a ≢ b) (file_names call)

-- four names are those of the call
four_are : (names : List (List ℕ)) (texts : Texts) → texts.positional ≡ names → length names ≡ 4
    → take 4 names ≡ file_names (compact_call texts)
four_are [] texts is four = absurd (omega arith)
four_are (a ∷ []) texts is four = absurd (omega arith)
four_are (a ∷ b ∷ []) texts is four = absurd (omega arith)
four_are (a ∷ b ∷ c ∷ []) texts is four = absurd (omega arith)
four_are (a ∷ b ∷ c ∷ d ∷ []) texts is four = rw is refl
four_are (a ∷ b ∷ c ∷ d ∷ e ∷ more) texts is four = absurd (omega arith)

-- what words ask for that say this
abbrev outcome : Result Texts WordsRefusal → Result Call WordsRefusal
outcome said = then_taken (then_taken said (λ texts. Ok (compact_call texts))) (λ call. Ok (compact call))

module _ (words : List (List ℕ)) (call : CompactCall) (asked : asked_call (codes "compact" ∷ words) ≡ Ok (compact call)) where
  asked_is : asked_call (codes "compact" ∷ words) ≡ outcome (accepted_texts compact_form words)
  asked_is = refl

  -- so the names of a call that words ask for are apart
  apart_by : (said : Result Texts WordsRefusal) → accepted_texts compact_form words ≡ said → HasFilesApart call
  apart_by (Err reason) is = let never : Ok (compact call) ≡ Err reason = sym asked ∙ asked_is ∙ ap outcome is in absurd cc
  apart_by (Ok texts) is =
      let same : Ok (compact (compact_call texts)) ≡ Ok (compact call) = sym (ap outcome is) ∙ sym asked_is ∙ asked in
      let same_call : compact_call texts ≡ call = cc in
      subst HasFilesApart same_call
      (subst (AllPairs (λ a b. a ≢ b)) (four_are texts.positional texts refl (all_texts_there compact_form refl words texts is))
      (files_apart compact_form refl words texts is))

  pub names_apart : HasFilesApart call
  names_apart = apart_by (accepted_texts compact_form words) refl

-- NET and REPORT stand there still, and the text of tests of which none can be left out
pub record KeptFiles (call : CompactCall) (left : Folder) : Type 0 where
  pub net : List ℕ
  pub report : List ℕ
  pub net_within : length net ≤ INPUT_LIMIT
  pub report_within : length report ≤ MOST_BYTES
  pub circuit : Circuit
  pub has : HasCircuit net circuit
  pub paths : List ListedPath
  pub report_is : SpellsReport circuit report paths
  pub listed : List Test
  pub kept : List Test
  pub lawful : All (IsLawfulTest circuit) kept
  pub graded : CanBeGraded circuit kept paths
  pub compacted : IsCompacted (Serves circuit paths) listed kept
  pub kept_within : length (tests_text circuit kept) ≤ MOST_BYTES
  pub net_left : bytes_at left.held call.net ≡ net
  pub report_left : bytes_at left.held call.report ≡ report
  pub out_left : bytes_at left.held call.out ≡ tests_text circuit kept

module _ (call : CompactCall) (apart : HasFilesApart call) where
  -- compact wrote its products over what was held before
  abbrev WroteOver : Products → Folder → Folder → Type 0
  WroteOver products before after =
      after ≡ record { held = put_all before.held products.files; asked = before.asked ++ names_read (compact_stages call) }

  kept_of : (before left : Folder) (net tests report : List ℕ) (products : Products) → net ≡ bytes_at before.held call.net
      → report ≡ bytes_at before.held call.report → length net ≤ INPUT_LIMIT → length tests ≤ MOST_BYTES → length report ≤ MOST_BYTES
      → GivesKept call net tests report products → WroteOver products before left → KeptFiles call left
  kept_of before left net tests report products is_net is_report net_within tests_within report_within gives wrote =
      let c = gives.circuit in
      let text = tests_text c gives.kept in
      let held : left.held ≡ put_all before.held (out_due call c gives.kept ∷ []) =
      ap (λ (f : Folder). f.held) wrote ∙ ap (λ (p : Products). put_all before.held p.files) gives.is in
      let few = few_tests c tests gives.listed tests_within gives.are.spell.tests_are in
      record {
        net = net;
        report = report;
        net_within = net_within;
        report_within = report_within;
        circuit = c;
        has = gives.are.has;
        paths = gives.paths;
        report_is = gives.are.spell.report_is;
        listed = gives.listed;
        kept = gives.kept;
        lawful = all_left (IsLawfulTest c) gives.listed gives.kept gives.compacted.in_order gives.are.spell.tests_are.lawful;
        graded = record {
          are_paths = gives.are.graded.are_paths;
          expect = all_left (ExpectsValues c) gives.listed gives.kept gives.compacted.in_order gives.are.graded.expect;
          few = omega (
            arith,
            gives.are.graded.few,
            mul-le (length gives.kept) (2 * length gives.paths) (length gives.listed) (2 * length gives.paths)
                (fewer_left gives.compacted.in_order) (omega arith),
          );
        };
        compacted = gives.compacted;
        kept_within = omega (
          arith,
          shorter_text c gives.listed gives.kept gives.compacted.in_order few,
          ap (λ (t : List ℕ). length t) gives.are.spell.tests_are.is_text,
        );
        net_left = ap (λ (h : Contents). bytes_at h call.net) held
            ∙ bytes_at-put_other before.held call.out call.net text (apart 0 3 [] (omega arith) (omega arith)) ∙ sym is_net;
        report_left = ap (λ (h : Contents). bytes_at h call.report) held
            ∙ bytes_at-put_other before.held call.out call.report text (apart 2 3 [] (omega arith) (omega arith)) ∙ sym is_report;
        out_left = ap (λ (h : Contents). bytes_at h call.out) held ∙ bytes_at-put before.held call.out text;
      }

  kept_told : (folder : Option Folder) (left : Folder) (inputs : List (List ℕ)) (products : Products)
      → Pass (compact_work call) folder (compact_stages call) [] inputs → GivesCompact call inputs products
      → Tells folder (Some left) (WroteOver products) → KeptFiles call left
  kept_told None left inputs products passed gives wrote = absurd wrote
  kept_told (Some before) left inputs products
      (net, is_net, (net_size, (circuit, (tests, is_tests, (tests_size, (report, is_report, (report_size, (form, (formed, (paths, (expected, (grades, all))))))))))))
      gives wrote =
      kept_of before left net tests report products is_net is_report (not_over role.Net net net_size) (not_over role.Tests tests tests_size)
      (not_over role.Report report report_size) (subst (λ (read : List (List ℕ)). GivesCompact call read products) all gives) wrote

  pub kept_files : (left : Folder) → IsLeftBy (compact_work call) left → KeptFiles call left
  kept_files left it =
      kept_told it.old.files.folder left it.done.inputs it.done.products it.done.passed it.done.gives
      (subst (λ (folder : Option Folder). Tells it.old.files.folder folder (WroteOver it.done.products)) it.told it.done.files)

-- words asked compact for this, and it was done
pub left_by_compact : (call : CompactCall) (left : Folder) → WasLeftByCompact call left → KeptFiles call left
left_by_compact call left was = kept_files call (names_apart was.words call was.asked) left was.left_by
