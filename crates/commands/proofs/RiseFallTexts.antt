-- The text of `rfreplay`, test by test; and why its lines keep what they promise.
use Rattle.std.proofs.Common.{◌≡◌, ◌≢◌, ℕ, suc, ◌+◌, ◌<◌, Bool, true, false, List, [], ◌∷◌, ◌++◌, length, Some, refl, sym, ap, ap₂, subst, ◌∙◌, append-nil, append_assoc, arith, ⊎_elim}
use Rattle.std.specs.Prelude.{codes, pos, slice_get}
use Rattle.std.specs.Bool.{beq}
use Rattle.std.specs.Cmp.Lexicographic.{pointwise}
use Rattle.std.proofs.lemmas.Bool.{cases_Bool}
use Rattle.std.proofs.lemmas.Int.{ints}
use Rattle.std.proofs.lemmas.List.{length-map, map-append}
use Rattle.std.proofs.lemmas.List.Elements.{All-push}
use Rattle.std.proofs.lemmas.Option.{slice_get-map}
use Rattle.std.proofs.lemmas.Slice.Eq.{slice_eq-Decides}
use Rattle.std.specs.Cmp.{booleans_Decides}
use Rattle.std.specs.Prelude.{option_map}
use Rattle.pd_base.specs.declared.ids.LineId.{LineId}
use Rattle.pd_base.specs.declared.test.Test.{Test}
use Rattle.netlist.specs.Circuit.{observed_lines}
use Rattle.netlist.specs.Lawful.{IsCircuit}
use Rattle.netlist.specs.Paths.{end_of}
use Rattle.netlist.specs.Values.{value}
use Rattle.rise_fall.specs.Showing.{IsLateAt}
use Rattle.rise_fall.specs.Waves.{rise_fall_wave}
use Rattle.rise_fall.proofs.LatePaths.{robust_detects_rise_fall}
use Rattle.commands.specs.ReplayText.{agreement_word, numbered_lines}
use Rattle.commands.specs.RiseFallReplayText.{HasPathLength, IsRiseFallText, IsShownLate, IsWordOn, JudgedTest, KeepsLatePromises, RiseFallSampling, judged_line, samples_of}
use Rattle.commands.specs.declared.rise_fall_replay.path_word.PathWord.{PathWord}

-- the lines of items with one more behind them
lines_push : {A : Type 0} (line_for : ℕ → A → List ℕ) (number : ℕ) (items : List A) (item : A)
    → numbered_lines line_for number (items ++ item ∷ []) ≡ numbered_lines line_for number items ++ line_for (number + length items) item
lines_push line_for number [] item =
    append-nil (line_for number item) ∙ ap (λ n. line_for n item) (same number)
  where
    same : (n : ℕ) → n ≡ n + 0
    same n = omega arith
lines_push line_for number (first ∷ items) item =
    ap (λ rest. line_for number first ++ rest) (lines_push line_for (number + 1) items item)
    ∙ sym (append_assoc (line_for number first) (numbered_lines line_for (number + 1) items) (line_for (number + 1 + length items) item))
    ∙ ap (λ n. (line_for number first ++ numbered_lines line_for (number + 1) items) ++ line_for n item) (further (length items))
  where
    further : (n : ℕ) → number + 1 + n ≡ number + suc n
    further n = omega arith

-- bits that are told to be the same are
same_bits : (bits others : List Bool) → pointwise beq bits others ≡ true → bits ≡ others
same_bits bits others told = (slice_eq-Decides booleans_Decides bits others true (sym told)).0 refl

-- of bits that differ the line says so
differing_word : (sampled expected : List Bool) → sampled ≢ expected → agreement_word sampled expected ≡ codes "differs"
differing_word sampled expected differ =
    ⊎_elim
    (λ (same : pointwise beq sampled expected ≡ true). absurd (differ (same_bits sampled expected same)))
    (λ (other : pointwise beq sampled expected ≡ false). rw other refl)
    (cases_Bool (pointwise beq sampled expected))

module _ (at : RiseFallSampling) where
  -- no line stands yet
  pub no_lines : IsRiseFallText at [] []
  no_lines = record { judged = []; of_tests = refl; words = λ k d within. absurd (omega arith); is_text = refl }

  -- one line more
  pub one_judged_more : (tests : List Test) (text : List ℕ) (test : Test) (word : PathWord) (number : ℕ) → number ≡ length tests + 1
      → IsWordOn at test word → IsRiseFallText at tests text
      → IsRiseFallText at (tests ++ test ∷ []) (text ++ judged_line at number (record { test = test; word = word }))
  one_judged_more tests text test word number is_number is before =
      let own : JudgedTest = record { test = test; word = word } in
      let long = length-map before.judged (λ (j : JudgedTest). j.test) in
      let count : number ≡ 1 + length before.judged = omega (arith, long, ap length before.of_tests) in
      record {
        judged = before.judged ++ own ∷ [];
        of_tests =
            map-append (λ (j : JudgedTest). j.test) before.judged (own ∷ []) ∙ ap (λ (some : List Test). some ++ test ∷ []) before.of_tests;
        words = All-push (λ (j : JudgedTest). IsWordOn at j.test j.word) before.judged own before.words is;
        is_text =
            ap₂ (λ (front : List ℕ) (n : ℕ). front ++ judged_line at n own) before.is_text count
            ∙ sym (lines_push (judged_line at) 1 before.judged own);
      }

  module _ (circuit : IsCircuit at.circuit) where
    -- the path of a test is longer than the time of sampling
    module _ (test : Test) (is : HasPathLength at test (λ length. at.time < length)) where
      -- its end
      abbrev end : ℕ
      end = end_of at.circuit is.listed.path

      -- what is sampled of a line
      abbrev sample_of : LineId → Bool
      sample_of line = rise_fall_wave at.circuit test.pair at.delays line.0 (pos at.time)

      wrong : IsLateAt at.circuit test.pair at.delays is.listed.path (pos at.time)
      wrong =
          let late = is.holds in
          robust_detects_rise_fall at.circuit circuit is.listed.path test.dir test.pair is.robust.is_path.prefix is.robust.meets at.delays
          (pos at.time) (omega (arith, ints))

      differs : (place : ℕ) → slice_get (observed_lines at.circuit) place ≡ Some (record { 0 = end })
          → slice_get test.expected place ≡ Some (value at.circuit test.pair.second end)
          → agreement_word (samples_of at test) test.expected ≡ codes "differs"
      differs place observed expected =
          differing_word (samples_of at test) test.expected
          (λ same.
          let sampled : slice_get (samples_of at test) place ≡ Some (sample_of (record { 0 = end })) =
          slice_get-map sample_of (observed_lines at.circuit) place ∙ ap (option_map sample_of) observed in
          let both : Some (sample_of (record { 0 = end })) ≡ Some (value at.circuit test.pair.second end) =
          sym sampled ∙ ap (λ (bits : List Bool). slice_get bits place) same ∙ expected in
          wrong (cc both))

      -- so a line that says `late` is right
      shown_late : IsShownLate at test
      shown_late = record { listed = is.listed; robust = is.robust; wrong = wrong; differs = differs }

    -- each line keeps what it promises
    pub keeps_late_promises : (own : JudgedTest) → IsWordOn at own.test own.word → KeepsLatePromises at own
    keeps_late_promises own is = record {
      shown = λ late. shown_late own.test (subst (IsWordOn at own.test) late is);
      always = λ path direction prefix meets. robust_detects_rise_fall at.circuit circuit path direction own.test.pair prefix meets;
    }
