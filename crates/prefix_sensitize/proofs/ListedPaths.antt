-- One path more is listed: its faults are answered, and all answers before stay.
use Rattle.std.proofs.Common.{◌≡◌, ⊎_elim, ℕ, ◌+◌, ◌<◌, ◌≤◌, List, [], ◌∷◌, ◌++◌, length, map, append-nil, refl, sym, ap, subst, subst₂, ◌∙◌, arith, length-append}
use Rattle.std.proofs.lemmas.List.{length-map, length_push, map-append}
use Rattle.std.proofs.lemmas.List.Elements.{All-nil, All-push}
use Rattle.std.proofs.lemmas.Option.{none-some}
use Rattle.pd_base.specs.declared.limits.TheConstants.{MOST_PATHS}
use Rattle.pd_base.specs.Route.{Route}
use Rattle.pd_base.specs.Target.{Target, target_of}
use Rattle.pd_base.specs.declared.fault.Direction.{Direction}
use Rattle.pd_base.specs.declared.fault.Direction.TheVariants.{Rise, Fall}
use Rattle.pd_base.specs.declared.fault.Kind.TheVariants as kinds
use Rattle.netlist.specs.Circuit.{Circuit}
use Rattle.netlist.specs.Paths.{IsPath, length_of}
use Rattle.netlist.specs.Waves.{Delays}
use Rattle.runs.specs.declared.run.ListedPath.{ListedPath}
use Rattle.runs.specs.declared.run.Verdict.{Verdict}
use Rattle.runs.specs.declared.run.Verdict.TheVariants.{Robust, Nonrobust, Untestable, Aborted}
use Rattle.runs.specs.Lawful.{AreNumbered, Named, none_named}
use Rattle.runs.specs.Verdicts.{verdicts_of}
use Rattle.good_runs.specs.Faults.{IsNumber, verdict_for}
use Rattle.good_runs.proofs.Numbers.{all_at_number, number_at, number_of_push}
use Rattle.prefix_sensitize.specs.declared.verdicts.Writer.{Writer}
use Rattle.prefix_sensitize.specs.Answers.{AreWritten, HasCited, IsBackedVerdict, IsNumberedTest, IsWriterFor, KeepsNumbers, Written, named_in, written_by}
use Rattle.prefix_sensitize.specs.Listed.{ArePathsAnswered, IsNextPath, IsPathAnswered, named_after}
use Rattle.prefix_sensitize.specs.Searches.{AreSearches, Searches}
use Rattle.prefix_sensitize.proofs.Naming.{named_after-append, numbered_on, verdicts_more}

-- no item has a number in an empty list
none_numbered : {T : Type 0} (number : ℕ) (item : T) → IsNumber [] number item → ⊥
none_numbered number item is = none-some item is.found

-- a proof that is cited stays so
cited_kept : (searches : Searches) (old new : Written) (path_number : ℕ) (target : Target) (number : ℕ) → KeepsNumbers old new
    → HasCited searches old.cited path_number target number → HasCited searches new.cited path_number target number
cited_kept searches old new path_number target number keeps has = record {
  index = has.index;
  is_cited = keeps.proofs number has.index has.is_cited;
  proof = has.proof;
  is_found = has.is_found;
  has_proof = has.has_proof;
}

-- an answer stays one
answer_kept : (c : Circuit) (searches : Searches) (old new : Written) (number : ℕ) (direction : Direction) (path : Route)
    (verdict : Verdict) → KeepsNumbers old new → IsBackedVerdict c searches old number direction path verdict
    → IsBackedVerdict c searches new number direction path verdict
unfolding cited_kept
answer_kept c searches old new number direction path (Robust test) keeps answer =
    record { test = answer.test; is_test = keeps.tests test answer.test answer.is_test; of_fault = answer.of_fault }
answer_kept c searches old new number direction path (Nonrobust test proof) keeps answer = (
  record {
    test = answer.0.test;
    is_test = keeps.tests test answer.0.test answer.0.is_test;
    of_fault = answer.0.of_fault;
    not_robust = answer.0.not_robust;
  },
  cited_kept searches old new number (target_of path direction kinds.Robust) proof keeps answer.1,
)
answer_kept c searches old new number direction path (Untestable proof) keeps answer = record {
  has = cited_kept searches old new number (target_of path direction kinds.Nonrobust) proof keeps answer.has;
  refutes = answer.refutes;
}
answer_kept c searches old new number direction path (Aborted robust nonrobust) keeps answer = (
  cited_kept searches old new number (target_of path direction kinds.Robust) robust keeps answer.0,
  record {
    has = cited_kept searches old new number (target_of path direction kinds.Nonrobust) nonrobust keeps answer.1.has;
    spent = answer.1.spent;
  },
)

-- what is kept twice is kept
keeps_on : (old middle new : Written) → KeepsNumbers old middle → KeepsNumbers middle new → KeepsNumbers old new
keeps_on old middle new before behind = record {
  tests = λ number test is. behind.tests number test (before.tests number test is);
  proofs = λ number index is. behind.proofs number index (before.proofs number index is);
}

module _ (c : Circuit) (delays : Delays) (searches : Searches) where
  -- before the first path
  pub none_listed : (listed : List ListedPath) (written : Written) → listed ≡ [] → written ≡ record { tests = []; cited = [] }
      → ArePathsAnswered c delays searches [] listed written
  none_listed listed written none is =
      subst₂ (λ (entries : List ListedPath) (w : Written). ArePathsAnswered c delays searches [] entries w) (sym none) (sym is) (record {
        are_routes = refl;
        lengths = All-nil (λ (entry : ListedPath). entry.length ≡ length_of delays entry.path);
        are_written = record {
          found = All-nil (λ index. index < length searches.proofs);
          once = λ number other index one two. absurd (none_numbered number index one);
          tests = All-nil (IsNumberedTest c searches);
        };
        answers = λ number entry direction own. absurd (none_numbered number entry own);
        numbered = tt;
        named = refl;
        few_tests = omega arith;
        few_proofs = omega arith;
      })

  module _ (routes : List Route) (listed : List ListedPath) (old new : Written) (path_number : ℕ) (path : Route) (entry : ListedPath)
      (are : ArePathsAnswered c delays searches routes listed old) (next : path_number ≡ length listed + 1)
      (is : IsPathAnswered c delays searches path_number path old new entry) where
    -- both verdicts answer their faults in the end
    own_answer : (direction : Direction) → IsBackedVerdict c searches new path_number direction path (verdict_for entry direction)
    own_answer Rise = answer_kept c searches is.middle new path_number Rise path entry.rise is.fall.keeps is.rise.answer
    own_answer Fall = is.fall.answer

    own_answer_at : (number : ℕ) (own : ListedPath) (direction : Direction) → number ≡ length listed + 1 → entry ≡ own
        → IsBackedVerdict c searches new number direction own.path (verdict_for own direction)
    own_answer_at number own direction last same =
        let P : ListedPath → Type 0 = λ e. IsBackedVerdict c searches new number direction e.path (verdict_for e direction) in
        let at_number : path_number ≡ number = next ∙ sym last in
        let Q : ℕ → Type 0 = λ n. IsBackedVerdict c searches new n direction entry.path (verdict_for entry direction) in
        let R : Route → Type 0 = λ route. IsBackedVerdict c searches new path_number direction route (verdict_for entry direction) in
        subst P same (subst Q at_number (subst R (sym is.of_path) (own_answer direction)))

    keeps : KeepsNumbers old new
    keeps = keeps_on old is.middle new is.rise.keeps is.fall.keeps

    -- what the verdicts name
    named_more : named_after none_named (verdicts_of (listed ++ entry ∷ [])) ≡ named_in new
    named_more =
        ap (named_after none_named) (verdicts_more listed entry)
        ∙ named_after-append none_named (verdicts_of listed) (entry.rise ∷ entry.fall ∷ [])
        ∙ ap (λ (named : Named). named_after named (entry.rise ∷ entry.fall ∷ [])) are.named
        ∙ ap (λ (named : Named). named_after named (entry.fall ∷ [])) is.rise.named
        ∙ is.fall.named

    numbered_more : AreNumbered none_named (verdicts_of (listed ++ entry ∷ []))
    numbered_more =
        let P : Named → Type 0 = λ named. AreNumbered named (entry.fall ∷ []) in
        let Q : Named → Type 0 = λ named. AreNumbered named (entry.rise ∷ entry.fall ∷ []) in
        let falls : AreNumbered (named_in is.middle) (entry.fall ∷ []) = (is.fall.names, tt) in
        let both : AreNumbered (named_in old) (entry.rise ∷ entry.fall ∷ []) =
        (is.rise.names, subst P (sym is.rise.named) falls) in
        subst (AreNumbered none_named) (sym (verdicts_more listed entry))
        (numbered_on none_named (verdicts_of listed) (entry.rise ∷ entry.fall ∷ []) are.numbered (subst Q (sym are.named) both))

    listed_more : ArePathsAnswered c delays searches (routes ++ path ∷ []) (listed ++ entry ∷ []) new
    listed_more =
        let grown = length_push listed entry in
        let few_tests = are.few_tests in
        let few_proofs = are.few_proofs in
        let tests_rise = is.rise.few_tests in
        let tests_fall = is.fall.few_tests in
        let proofs_rise = is.rise.few_proofs in
        let proofs_fall = is.fall.few_proofs in
        record {
          are_routes = map-append (λ (e : ListedPath). e.path) listed (entry ∷ [])
              ∙ ap (λ (own : Route). map (λ (e : ListedPath). e.path) listed ++ own ∷ []) is.of_path
              ∙ ap (λ (before : List Route). before ++ path ∷ []) are.are_routes;
          lengths = All-push (λ (e : ListedPath). e.length ≡ length_of delays e.path) listed entry are.lengths
              (is.long ∙ ap (length_of delays) (sym is.of_path));
          are_written = is.fall.written;
          answers = λ number own direction numbered.
              ⊎_elim
              (λ before. answer_kept c searches old new number direction own.path (verdict_for own direction) keeps
              (are.answers number own direction before))
              (λ last. own_answer_at number own direction last.0 last.1)
              (number_of_push listed entry own number numbered);
          numbered = numbered_more;
          named = named_more;
          few_tests = omega arith;
          few_proofs = omega arith;
        }

  -- a turn of the pass, after some of the paths
  module _ (are_searches : AreSearches c searches) (yielded rest : List Route) (split : yielded ++ rest ≡ searches.routes)
      (listed : List ListedPath) (old : Written) (are : ArePathsAnswered c delays searches yielded listed old) where
    -- as many are listed as were gone through
    count : length listed ≡ length yielded
    count = sym (length-map listed (λ (entry : ListedPath). entry.path)) ∙ ap length are.are_routes

    pub few_listed : length listed ≤ MOST_PATHS
    few_listed =
        let same = count in
        let all = sym (length-append yielded rest) ∙ ap length split in
        let few = are_searches.few in
        omega arith

    -- the next path
    module _ (path : Route) (behind : List Route) (first : rest ≡ path ∷ behind) (number : ℕ) (next : number ≡ length listed + 1) where
      pub is_listed : IsNumber searches.routes number path
      is_listed =
          let P : List Route → Type 0 = λ routes. IsNumber routes number path in
          let before : yielded ++ path ∷ behind ≡ searches.routes = ap (λ (list : List Route). yielded ++ list) (sym first) ∙ split in
          subst P before (number_at yielded number path behind (next ∙ ap (λ (n : ℕ). n + 1) count))

      pub is_next : (writer : Writer) → IsWriterFor c searches writer → old ≡ written_by writer → IsNextPath c searches number path writer
      is_next writer for is =
          let few = few_listed in
          let few_tests = are.few_tests in
          let few_proofs = are.few_proofs in
          let tests = ap (λ (w : Written). length w.tests) is in
          let proofs = ap (λ (w : Written). length w.cited) is in
          record {
            are_searches = are_searches;
            is_listed = is_listed;
            is_path = all_at_number (IsPath c) searches.routes number path are_searches.are_paths is_listed;
            is_writer = for;
            are_written = subst (AreWritten c searches) is are.are_written;
            few_tests = omega arith;
            few_proofs = omega arith;
          }

      -- when it is listed
      pub one_more : (new : Written) (entry : ListedPath) (all : List ListedPath) → all ≡ listed ++ entry ∷ []
          → IsPathAnswered c delays searches number path old new entry
          → ArePathsAnswered c delays searches (yielded ++ path ∷ []) all new
      one_more new entry all grown is =
          subst (λ (entries : List ListedPath). ArePathsAnswered c delays searches (yielded ++ path ∷ []) entries new) (sym grown)
          (listed_more yielded listed old new number path entry are next is)

    -- at the end all are listed
    pub all_listed : rest ≡ [] → ArePathsAnswered c delays searches searches.routes listed old
    all_listed none =
        let P : List Route → Type 0 = λ routes. ArePathsAnswered c delays searches routes listed old in
        let whole : yielded ≡ searches.routes =
        sym (append-nil yielded) ∙ ap (λ (list : List Route). yielded ++ list) (sym none) ∙ split in
        subst P whole are
