-- The line of the report is made of its fields, and its fields of the line.
use Rattle.std.proofs.Common.{◌≡◌, inl, inr, ◌+◌, ◌*◌, ℕ, List, [], ◌∷◌, ◌++◌, Option, Some, None, length, codes, decimal, refl, sym, ap, ◌∙◌, arith}
use Rattle.std.specs.List.{AllByRecursion}
use Rattle.std.proofs.lemmas.Option.{none-some, same_Some}
use Rattle.pd_base.specs.declared.fault.Direction.{Direction}
use Rattle.pd_base.specs.declared.fault.Direction.TheVariants.{Rise, Fall}
use Rattle.netlist.specs.Circuit.{Circuit}
use Rattle.netlist.specs.Lawful.{IsCircuit}
use Rattle.netlist.specs.Names.{name_at}
use Rattle.runs.specs.declared.run.ListedPath.{ListedPath}
use Rattle.runs.specs.declared.run.Verdict.{Verdict}
use Rattle.runs.specs.declared.run.Verdict.TheVariants.{Robust, Nonrobust, Untestable, Aborted}
use Rattle.runs.specs.Lawful.{Named, named_with}
use Rattle.text_pieces.specs.Tokens.{comma, line_feed}
use Rattle.text_pieces.specs.LineFiles.{state_after}
use Rattle.text_pieces.specs.Cuts.{pieces}
use Rattle.text_pieces.specs.Reads.{Reads}
use Rattle.text_pieces.proofs.PieceTexts.{are_pieces, decimal_is_piece, direction_is_piece, joined_line, literal_is_piece, IsPiece}
use Rattle.text_pieces.proofs.Cuts.{joined_reads}
use Rattle.text_pieces.proofs.ReadLines.{AreOneLine, ReadsItem}
use Rattle.text_pieces.proofs.Spelled.{none_spelled, one_spelled}
use Rattle.run_files.specs.ReportForm.{due_direction, fall_line, line_fields, lines_told, report_form, rise_line, IsNextLine, IsNextVerdict, IsTellable, ReportLine, ReportState}
use Rattle.run_files.specs.ReportReading.{fields_with}
use Rattle.run_files.specs.ReportText.{nothing, steps_text, verdict_fields}
use Rattle.run_files.proofs.ReportNames.{name_lacks}
use Rattle.run_files.proofs.ReportSteps.{steps_lack}
use Rattle.run_files.proofs.ReportVerdicts.{same_lawful}

-- what lines of whole paths leave
abbrev pub between : ℕ → Named → ReportState
between number named = record { number = number; waiting = None; named = named }

-- what is left in the middle of a path
abbrev pub behind_rise : ℕ → ReportLine → Named → ReportState
behind_rise number rise named = record { number = number; waiting = Some rise; named = named }

nothing_is_piece : IsPiece comma nothing
nothing_is_piece = record { no_parting = (refl, tt); no_line_feed = (refl, tt) }

number_is_piece : (number : ℕ) → IsPiece comma (decimal number)
number_is_piece number = decimal_is_piece comma (omega arith) number

verdict_is_pieces : (verdict : Verdict) → AllByRecursion (IsPiece comma) (verdict_fields verdict)
verdict_is_pieces (Robust test) =
    (literal_is_piece comma (omega arith) (codes "robust") refl, (number_is_piece test, (nothing_is_piece, (nothing_is_piece, tt))))
verdict_is_pieces (Nonrobust test proof) =
    (literal_is_piece comma (omega arith) (codes "nonrobust") refl, (number_is_piece test, (number_is_piece proof, (nothing_is_piece, tt))))
verdict_is_pieces (Untestable proof) =
    (literal_is_piece comma (omega arith) (codes "untestable") refl, (nothing_is_piece, (nothing_is_piece, (number_is_piece proof, tt))))
verdict_is_pieces (Aborted robust nonrobust) =
    (literal_is_piece comma (omega arith) (codes "aborted") refl, (nothing_is_piece, (number_is_piece robust, (number_is_piece nonrobust, tt))))

module _ (c : Circuit) (circuit : IsCircuit c) where
  pub fields_are_pieces : (number : ℕ) (direction : Direction) (told : ReportLine) → IsTellable c told.path told.length
      → AllByRecursion (IsPiece comma) (line_fields c number direction told)
  fields_are_pieces number direction told is = (
    number_is_piece number,
    (
      direction_is_piece comma (omega arith) direction,
      (
        number_is_piece told.length,
        (
          record {
            no_parting = name_lacks c circuit comma (inr refl) told.path.source.0 (omega (arith, is.nameable.source));
            no_line_feed = name_lacks c circuit line_feed (inl (omega arith)) told.path.source.0 (omega (arith, is.nameable.source));
          },
          (
            record {
              no_parting = steps_lack c circuit comma (inr refl) (omega arith) refl told.path.steps is.nameable.steps;
              no_line_feed = steps_lack c circuit line_feed (inl (omega arith)) (omega arith) refl told.path.steps is.nameable.steps;
            },
            verdict_is_pieces told.verdict,
          ),
        ),
      ),
    ),
  )

  -- no line has an LF within
  pub one_line : (state : ReportState) → AreOneLine (report_form c) state
  one_line state told next =
      joined_line comma (line_fields c state.number (due_direction state.waiting) told) refl
      (fields_are_pieces state.number (due_direction state.waiting) told next.path)

  -- what the fields of a line are read as, the line is
  pub reads_text : (state : ReportState) (text : List ℕ) (read : Option ReportLine)
      → Reads (line_fields c state.number (due_direction state.waiting)) (IsNextLine c state) (pieces comma text) read
      → ReadsItem (report_form c) state text read
  reads_text state text read reads =
      joined_reads comma (line_fields c state.number (due_direction state.waiting)) (IsNextLine c state)
      (λ told next. are_pieces comma (line_fields c state.number (due_direction state.waiting) told) (omega arith)
      (fields_are_pieces state.number (due_direction state.waiting) told next.path))
      text read reads

  -- the line for the rising transition
  pub rise_reads : (number : ℕ) (named : Named) (text : List ℕ) (read : Option ReportLine)
      → Reads (line_fields c number Rise) (λ told. IsTellable c told.path told.length × IsNextVerdict named told.verdict) (pieces comma text) read
      → ReadsItem (report_form c) (between number named) text read
  rise_reads number named text read reads =
      reads_text (between number named) text read
      (same_lawful (line_fields c number Rise) (λ told. IsTellable c told.path told.length × IsNextVerdict named told.verdict)
      (IsNextLine c (between number named)) (pieces comma text) (λ told is. record { path = is.0; agrees = tt; verdict = is.1 })
      (λ told next. (next.path, next.verdict)) read reads)

  -- the line for the falling one, behind it
  module _ (number : ℕ) (named : Named) (rise : ReportLine) (tellable : IsTellable c rise.path rise.length) (text : List ℕ)
      (fields : List ℕ × List ℕ × List ℕ)
      (are : fields ≡ (decimal rise.length, name_at c rise.path.source.0, steps_text c rise.path.steps)) where
    -- what it tells
    abbrev fall_with : Verdict → ReportLine
    fall_with verdict = record { path = rise.path; length = rise.length; verdict = verdict }

    abbrev pub ReadsFall : Option Verdict → Type 0
    ReadsFall read =
        Reads (λ verdict. fields_with number Fall (fields, verdict_fields verdict)) (IsNextVerdict named) (pieces comma text) read

    told_is : (told : ReportLine) → IsNextLine c (behind_rise number rise named) told → told ≡ fall_with told.verdict
    told_is told next = λ i. record { path = next.agrees.0 i; length = next.agrees.1 i; verdict = told.verdict }

    fields_are : (told : ReportLine) → IsNextLine c (behind_rise number rise named) told → line_fields c number Fall told
        ≡ fields_with number Fall (fields, verdict_fields told.verdict)
    fields_are told next =
        ap (line_fields c number Fall) (told_is told next)
        ∙ ap (λ (texts : List ℕ × List ℕ × List ℕ). fields_with number Fall (texts, verdict_fields told.verdict)) (sym are)

    pub no_fall : ReadsFall None → ReadsItem (report_form c) (behind_rise number rise named) text None
    no_fall reads =
        reads_text (behind_rise number rise named) text None
        (none_spelled (line_fields c number Fall) (IsNextLine c (behind_rise number rise named)) (pieces comma text)
        (λ told next same. none-some told.verdict (reads.only told.verdict next.verdict (same ∙ fields_are told next))))

    pub one_fall : (verdict : Verdict) → ReadsFall (Some verdict)
        → ReadsItem (report_form c) (behind_rise number rise named) text (Some (fall_with verdict))
    one_fall verdict reads =
        let next : IsNextLine c (behind_rise number rise named) (fall_with verdict) =
        record { path = tellable; agrees = (refl, refl); verdict = reads.found.0 } in
        reads_text (behind_rise number rise named) text (Some (fall_with verdict))
        (one_spelled (line_fields c number Fall) (IsNextLine c (behind_rise number rise named)) (pieces comma text) (fall_with verdict) next
        (reads.found.1 ∙ sym (fields_are (fall_with verdict) next))
        (λ told also same.
        ap fall_with (same_Some verdict told.verdict (reads.only told.verdict also.verdict (same ∙ fields_are told also)))
        ∙ sym (told_is told also)))

-- the lines of one path more
pub lines_more : (paths : List ListedPath) (listed : ListedPath)
    → lines_told (paths ++ listed ∷ []) ≡ (lines_told paths ++ rise_line listed ∷ []) ++ fall_line listed ∷ []
lines_more [] listed = refl
lines_more (first ∷ paths) listed = ap (λ rest. rise_line first ∷ fall_line first ∷ rest) (lines_more paths listed)

-- two lines for each path
pub lines_count : (paths : List ListedPath) → length (lines_told paths) ≡ 2 * length paths
lines_count [] = refl
lines_count (listed ∷ paths) = omega (arith, lines_count paths)

-- the number of the path behind them
pub number_after : (c : Circuit) (number : ℕ) (named : Named) (paths : List ListedPath)
    → (state_after (report_form c) (between number named) (lines_told paths)).number ≡ number + length paths
number_after c number named [] = omega arith
number_after c number named (listed ∷ paths) =
    omega (arith, number_after c (number + 1) (named_with (named_with named listed.rise) listed.fall) paths)
