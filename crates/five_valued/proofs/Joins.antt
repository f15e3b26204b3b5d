-- What an operation makes of a list is what it makes of two values at a time, from either end.
use Rattle.std.proofs.Common.{◌≡◌, ℕ, ◌+◌, ◌<◌, Bool, true, false, not, cond, ◌&&◌, ◌||◌, List, [], ◌∷◌, ◌++◌, map, take, length, get_or, if◌then◌else◌, refl, sym, ap, ◌∙◌}
use Rattle.std.specs.List.{list_all, list_any}
use Rattle.std.proofs.lemmas.Bool.{cond-false}
use Rattle.std.proofs.lemmas.List.{take_more, map-append}
use Rattle.netlist.specs.Values.{parity}
use Rattle.netlist.specs.declared.op.Op.{Op}
use Rattle.netlist.specs.declared.op.Op.TheVariants.{And, Or, Xor}
use Rattle.five_valued.specs.declared.five.Five.{Five}
use Rattle.five_valued.specs.declared.five.Five.TheVariants.{S0, S1, U0, U1, XX}
use Rattle.five_valued.specs.FiveValues.{is_steady_at, is_known_steady, ends_at, has_last, steady_five, ending_five, controlled, parity_five, joined_five}
use Rattle.five_valued.proofs.FiveTests.{all_bits, at_bit, all_pairs, at_pair, all_fives, at_five, all_five_pairs, at_five_pair, same_five, same_five_tells}

-- what the four tests of a list decide
abbrev decided : Bool → Bool → Bool → Bool → Bool → Five
decided bit some_steady all_steady some_end all_end =
    if some_steady then steady_five bit
    else if all_steady then steady_five (not bit)
    else if some_end then ending_five bit
    else if all_end then ending_five (not bit) else XX

-- the tests of a list are at odds: all are steady at the other bit, and yet not all end there alone
abbrev odd_tests : Bool → Bool → Bool → Bool
odd_tests all_steady some_end all_end = all_steady && (some_end || not all_end)

never_odd : (bit : Bool) (values : List Five)
    → odd_tests (list_all (is_steady_at (not bit)) values) (list_any (ends_at bit) values)
    (list_all (ends_at (not bit)) values) ≡ false
never_odd bit [] = refl
never_odd false (S0 ∷ values) = refl
never_odd false (S1 ∷ values) = never_odd false values
never_odd true (S0 ∷ values) = never_odd true values
never_odd true (S1 ∷ values) = refl
never_odd bit (U0 ∷ values) = refl
never_odd bit (U1 ∷ values) = refl
never_odd bit (XX ∷ values) = refl

-- one value before a list whose tests are these
abbrev one_more : Bool → Five → Bool → Bool → Bool → Bool → Bool
one_more bit value a b c d =
    cond (odd_tests b c d) true (same_five
    (decided bit (is_steady_at bit value || a) (is_steady_at (not bit) value && b) (ends_at bit value || c)
    (ends_at (not bit) value && d))
    (controlled bit (value ∷ decided bit a b c d ∷ [])))

every_one_more : all_bits (λ bit. all_fives (λ value. all_pairs (λ a b. all_pairs (one_more bit value a b)))) ≡ true
every_one_more = refl

controlled-cons : (bit : Bool) (value : Five) (values : List Five)
    → controlled bit (value ∷ values) ≡ controlled bit (value ∷ controlled bit values ∷ [])
controlled-cons bit value values =
    let a = list_any (is_steady_at bit) values in
    let b = list_all (is_steady_at (not bit)) values in
    let c = list_any (ends_at bit) values in
    let d = list_all (ends_at (not bit)) values in
    let fits : one_more bit value a b c d ≡ true = at_pair (one_more bit value a b)
    (at_pair (λ s t. all_pairs (one_more bit value s t))
    (at_five (λ v. all_pairs (λ s t. all_pairs (one_more bit v s t)))
    (at_bit (λ at. all_fives (λ v. all_pairs (λ s t. all_pairs (one_more at v s t)))) every_one_more bit) value) a b) c d in
    same_five_tells (controlled bit (value ∷ values)) (controlled bit (value ∷ controlled bit values ∷ []))
    (sym (cond-false (odd_tests b c d) true _ (never_odd bit values)) ∙ fits)

-- the same of a parity, of which there are two tests
abbrev decided_parity : Bool → Bool → Bool → Five
decided_parity all_steady all_known odd =
    if all_steady then steady_five odd else if all_known then ending_five odd else XX

steady_known : (values : List Five) → (list_all is_known_steady values && not (list_all has_last values)) ≡ false
steady_known [] = refl
steady_known (S0 ∷ values) = steady_known values
steady_known (S1 ∷ values) = steady_known values
steady_known (U0 ∷ values) = refl
steady_known (U1 ∷ values) = refl
steady_known (XX ∷ values) = refl

abbrev one_more_odd : Five → Bool → Bool → Bool → Bool
one_more_odd value odd a b =
    cond (a && not b) true (same_five
    (decided_parity (is_known_steady value && a) (has_last value && b) (cond (ends_at true value) (not odd) odd))
    (parity_five (value ∷ decided_parity a b odd ∷ [])))

every_one_more_odd : all_fives (λ value. all_bits (λ odd. all_pairs (one_more_odd value odd))) ≡ true
every_one_more_odd = refl

parity-cons : (value : Five) (values : List Five)
    → parity_five (value ∷ values) ≡ parity_five (value ∷ parity_five values ∷ [])
parity-cons value values =
    let odd = parity (map (ends_at true) values) in
    let a = list_all is_known_steady values in
    let b = list_all has_last values in
    let fits : one_more_odd value odd a b ≡ true = at_pair (one_more_odd value odd)
    (at_bit (λ bit. all_pairs (one_more_odd value bit))
    (at_five (λ v. all_bits (λ bit. all_pairs (one_more_odd v bit))) every_one_more_odd value) odd) a b in
    same_five_tells (parity_five (value ∷ values)) (parity_five (value ∷ parity_five values ∷ []))
    (sym (cond-false (a && not b) true _ (steady_known values)) ∙ fits)

-- the first value, and what is made of the others
pub joined-cons : (op : Op) (value : Five) (values : List Five)
    → joined_five op (value ∷ values) ≡ joined_five op (value ∷ joined_five op values ∷ [])
joined-cons And value values = controlled-cons false value values
joined-cons Or value values = controlled-cons true value values
joined-cons Xor value values = parity-cons value values

abbrev join : Op → Five → Five → Five
join op a b = joined_five op (a ∷ b ∷ [])

abbrev is_associative : Op → Five → Five → Five → Bool
is_associative op a b c = same_five (join op a (join op b c)) (join op (join op a b) c)

associative_test : (op : Op) → all_fives (λ a. all_five_pairs (is_associative op a)) ≡ true
associative_test And = refl
associative_test Or = refl
associative_test Xor = refl

associative : (op : Op) (a b c : Five) → join op a (join op b c) ≡ join op (join op a b) c
associative op a b c = same_five_tells (join op a (join op b c)) (join op (join op a b) c)
    (at_five_pair (is_associative op a) (at_five (λ v. all_five_pairs (is_associative op v)) (associative_test op) a) b c)

alone_test : (op : Op) → all_fives (λ v. same_five (joined_five op (v ∷ [])) (join op (joined_five op []) v)) ≡ true
alone_test And = refl
alone_test Or = refl
alone_test Xor = refl

-- what is made of the other values, and the last value
joined-push : (op : Op) (values : List Five) (last : Five)
    → joined_five op (values ++ last ∷ []) ≡ join op (joined_five op values) last
joined-push op [] last = same_five_tells (joined_five op (last ∷ [])) (join op (joined_five op []) last)
    (at_five (λ v. same_five (joined_five op (v ∷ [])) (join op (joined_five op []) v)) (alone_test op) last)
joined-push op (value ∷ values) last =
    joined-cons op value (values ++ last ∷ []) ∙ ap (join op value) (joined-push op values last)
    ∙ associative op value (joined_five op values) last
    ∙ ap (λ first. join op first last) (sym (joined-cons op value values))

-- what is made of the first values and the next one
pub joined-take_more : {X : Type 0} (op : Op) (f : X → Five) (xs : List X) (place : ℕ) (d : X) → place < length xs
    → joined_five op (map f (take (place + 1) xs)) ≡ join op (joined_five op (map f (take place xs))) (f (get_or xs place d))
joined-take_more op f xs place d within =
    ap (λ first. joined_five op (map f first)) (take_more xs place d within)
    ∙ ap (joined_five op) (map-append f (take place xs) (get_or xs place d ∷ []))
    ∙ joined-push op (map f (take place xs)) (f (get_or xs place d))
