-- A row of bare fields is what csv reads at the front of a text; so rows cut one by one are those of the file.
use Rattle.std.proofs.Common.{◌≡◌, ℕ, ◌<◌, ◌==◌, true, false, length, take, drop, take-append-drop, List, [], ◌∷◌, ◌++◌, Some, codes, refl, sym, ap, subst, ◌∙◌, arith}
use Rattle.std.specs.Cmp.Lexicographic.{bytes_decides, pointwise}
use Rattle.std.specs.Prelude.{nat_eq}
use Rattle.std.proofs.lemmas.Bool.Decides.{nat_tests}
use Rattle.std.proofs.lemmas.List.Elements.{All-head, All-tail}
use Rattle.csv.specs.Machine.{line_feed, next_record}
use Rattle.csv.specs.Quoting.{needs_byte}
use Rattle.csv.specs.Reading.{Reached, default_config, strip_bom}
use Rattle.csv.specs.Writing.{default_writer, field_text, needs_quotes}
use Rattle.csv.specs.declared.parser.State.TheVariants as st
use Rattle.csv.proofs.ReadFacts.{reached-more}
use Rattle.csv.proofs.RoundTrip.{field-run, record-same}
use Rattle.delay_annotation.specs.DelayFile.{Row}
use Rattle.delay_bounds.specs.Inside.Bare.{AreAbove, bare_text, comma}
use Rattle.delay_bounds.specs.LogFile.{AreLogRows, IsLog}
use Rattle.delay_bounds.specs.LogRows.{IsLogRow}
use Rattle.delay_bounds.specs.declared.log_row.LogRow.{LogRow}
use Rattle.delay_bounds.proofs.Taken.{accepted_more}

-- a byte above the comma calls for no quotes
above_passes : (byte : ℕ) → comma < byte → needs_byte default_writer byte ≡ false
above_passes byte above = grind (arith, nat_tests, above)

-- so a bare field calls for none
bare_passes : (field : List ℕ) → AreAbove comma field → needs_quotes default_writer field ≡ false
bare_passes [] above = refl
bare_passes (byte ∷ field) above =
    rw (above_passes byte (All-head (λ own. comma < own) byte field above)) (bare_passes field (All-tail (λ own. comma < own) byte field above))

-- and is written as it is
bare_written : (field : List ℕ) → AreAbove comma field → field_text default_writer field ≡ field
bare_written field above = rw (bare_passes field above) refl

-- csv reads a bare field up to the byte behind it, which is no quote
field_reads : (fields : List (List ℕ)) (field : List ℕ) (mark : ℕ) (behind : List ℕ) → (mark == 34) ≡ false → AreAbove comma field
    → next_record default_config st.StartField fields [] (field ++ mark ∷ behind)
    ≡ next_record default_config st.InField fields field (mark ∷ behind)
field_reads fields field mark behind other above =
    subst (λ text. next_record default_config st.StartField fields [] (text ++ mark ∷ behind)
    ≡ next_record default_config st.InField fields field (mark ∷ behind)) (bare_written field above) (field-run fields field mark behind other)

-- a record starts as its first field does
record_starts : (field behind : List ℕ) → AreAbove comma field
    → next_record default_config st.StartRecord [] [] (field ++ comma ∷ behind)
    ≡ next_record default_config st.StartField [] [] (field ++ comma ∷ behind)
record_starts [] behind above = record-same [] [] comma behind refl refl
record_starts (byte ∷ field) behind above =
    let own = All-head (λ own. comma < own) byte field above in
    record-same [] [] byte (field ++ comma ∷ behind) (grind (arith, nat_tests, own)) (grind (arith, nat_tests, own))

-- csv reads a row of bare fields as these fields
bare_reads : (test time result behind : List ℕ) → AreAbove comma test → AreAbove comma time → AreAbove comma result
    → next_record default_config st.StartRecord [] [] (bare_text test time result behind)
    ≡ Some (test ∷ time ∷ result ∷ [], st.StartRecord, behind)
unfolding next_record
bare_reads test time result behind bare_test bare_time bare_result =
    record_starts test _ bare_test
    ∙ field_reads [] test comma _ refl bare_test
    ∙ field_reads (test ∷ []) time comma _ refl bare_time
    ∙ field_reads (test ∷ time ∷ []) result line_feed behind refl bare_result

-- a text that begins with this, and what is left of it
pub behind_start : (start text rest : List ℕ) → pointwise nat_eq (take (length start) text) start ≡ true → rest ≡ drop (length start) text
    → text ≡ start ++ rest
behind_start start text rest begins is =
    sym (take-append-drop (length start) text)
    ∙ ap (λ (front : List ℕ). front ++ drop (length start) text) ((bytes_decides _ start).0 begins)
    ∙ ap (λ (behind : List ℕ). start ++ behind) (sym is)

-- the titles of a log as a row
abbrev pub titles_row : Row
titles_row = codes "test" ∷ codes "time" ∷ codes "result" ∷ []

-- the rows cut off so far are the titles and accepted rows, and this is the text behind them
pub record HasCut (tests : ℕ) (bytes rest : List ℕ) (log : List LogRow) : Type 0 where
  pub rows : List Row
  pub reached : Reached default_config st.StartRecord (strip_bom bytes) (titles_row ∷ rows) st.StartRecord rest
  pub accepted : AreLogRows tests rows log

-- the titles are cut off
pub cut_titles : (tests : ℕ) (bytes rest : List ℕ) → bytes ≡ codes "test,time,result\n" ++ rest → HasCut tests bytes rest []
unfolding Reached next_record strip_bom
cut_titles tests bytes rest is = record {
  rows = [];
  reached = subst (λ text. Reached default_config st.StartRecord (strip_bom text) (titles_row ∷ []) st.StartRecord rest) (sym is)
      ((titles_row, st.StartRecord, rest), refl, refl, (refl, refl));
  accepted = tt;
}

-- a row of bare fields more
pub cut_more : (tests : ℕ) (bytes rest : List ℕ) (log : List LogRow) → HasCut tests bytes rest log
    → (test time result behind : List ℕ) (said : LogRow) → rest ≡ bare_text test time result behind
    → AreAbove comma test → AreAbove comma time → AreAbove comma result → IsLogRow tests (test ∷ time ∷ result ∷ []) said
    → HasCut tests bytes behind (log ++ said ∷ [])
cut_more tests bytes rest log has test time result behind said is bare_test bare_time bare_result row = record {
  rows = has.rows ++ (test ∷ time ∷ result ∷ []) ∷ [];
  reached = reached-more default_config st.StartRecord st.StartRecord (strip_bom bytes) rest (titles_row ∷ has.rows)
      (test ∷ time ∷ result ∷ [], st.StartRecord, behind) has.reached
      (ap (next_record default_config st.StartRecord [] []) is ∙ bare_reads test time result behind bare_test bare_time bare_result);
  accepted = accepted_more tests has.rows (test ∷ time ∷ result ∷ []) log said has.accepted row;
}

-- and where nothing is left, these are all
pub cut_all : (tests : ℕ) (bytes rest : List ℕ) (log : List LogRow) → HasCut tests bytes rest log → length rest ≡ 0 → IsLog tests bytes log
unfolding next_record
cut_all tests bytes [] log has none = record {
  titles = titles_row;
  rows = has.rows;
  all_rows = (st.StartRecord, [], has.reached, refl);
  are_titles = refl;
  accepted = has.accepted;
}
cut_all tests bytes (byte ∷ rest) log has none = absurd (omega (arith, none))
