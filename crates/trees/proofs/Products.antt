-- Products of numbers over a list of sources without repeats.
use Rattle.std.proofs.Common.{◌≡◌, ◌≢◌, ℕ, zero, suc, ◌+◌, ◌*◌, ◌^◌, ◌<◌, ◌≤◌, List, [], ◌∷◌, length, get_or, refl, sym, ap, ◌∙◌, arith, mul-add, add-mul, pow-suc, mul_comm, mul_left_comm, mul-le-mul}
use Rattle.std.specs.List.{AllPairs}
use native.Mathlib.Nat.{pow-zero}

-- the product of what a function has at each number of a list
abbrev pub product_by : (ℕ → ℕ) → List ℕ → ℕ
product_by f [] = 1
product_by f (x ∷ xs) = f x * product_by f xs

-- two numbers differ
abbrev pub Differ : ℕ → ℕ → Type 0
Differ x y = x ≢ y

-- no number stands twice in the rest of such a list
pub rest_differs : (x : ℕ) (xs : List ℕ) → AllPairs Differ (x ∷ xs) → AllPairs Differ xs
rest_differs x xs differ i j d before within = differ (suc i) (suc j) d (omega arith) (omega arith)

-- a product of numbers that are not 0 is not 0
pub product-pos : (f : ℕ → ℕ) (xs : List ℕ) → ((x : ℕ) → 1 ≤ f x) → 1 ≤ product_by f xs
product-pos f [] all = omega arith
product-pos f (x ∷ xs) all = let r : 1 * 1 ≤ f x * product_by f xs = mul-le-mul (all x) (product-pos f xs all) in r

-- two functions that agree on the list have one product
pub product_same : (f g : ℕ → ℕ) (xs : List ℕ) → ((k d : ℕ) → k < length xs → f (get_or xs k d) ≡ g (get_or xs k d))
    → product_by f xs ≡ product_by g xs
product_same f g [] same = refl
product_same f g (x ∷ xs) same =
    let head : f x ≡ g x = same 0 0 (omega arith) in
    let rest : product_by f xs ≡ product_by g xs = product_same f g xs (λ k d h. same (suc k) d (omega arith)) in
    cc

-- a product in which one number is the sum of two parts, and the others stay, is the sum of the products with the parts
pub product_parts : (f g h : ℕ → ℕ) (q : ℕ) → f q ≡ g q + h q
    → ((x : ℕ) → x ≢ q → f x ≡ g x) → ((x : ℕ) → x ≢ q → f x ≡ h x)
    → (xs : List ℕ) → AllPairs Differ xs → (k : ℕ) → k < length xs → get_or xs k q ≡ q
    → product_by f xs ≡ product_by g xs + product_by h xs
product_parts f g h q parts same_g same_h [] differ k within at = absurd (omega arith)
product_parts f g h q parts same_g same_h (x ∷ xs) differ zero within at =
    let others : (j d : ℕ) → j < length xs → get_or xs j d ≢ q =
    λ j d lt e. differ 0 (suc j) d (omega arith) (omega arith) (at ∙ sym e) in
    let to_g : product_by f xs ≡ product_by g xs = product_same f g xs (λ j d lt. same_g (get_or xs j d) (others j d lt)) in
    let to_h : product_by f xs ≡ product_by h xs = product_same f h xs (λ j d lt. same_h (get_or xs j d) (others j d lt)) in
    ap (λ n. f n * product_by f xs) at ∙ ap (λ n. n * product_by f xs) parts ∙ add-mul (g q) (h q) (product_by f xs)
    ∙ ap (λ n. g q * n + h q * product_by f xs) to_g ∙ ap (λ n. g q * product_by g xs + h q * n) to_h
    ∙ ap (λ n. g n * product_by g xs + h n * product_by h xs) (sym at)
product_parts f g h q parts same_g same_h (x ∷ xs) differ (suc k) within at =
    let other : x ≢ q = λ e. differ 0 (suc k) q (omega arith) (omega arith) (e ∙ sym at) in
    ap (λ n. f x * n)
    (product_parts f g h q parts same_g same_h xs (rest_differs x xs differ) k (omega arith) at)
    ∙ mul-add (f x) (product_by g xs) (product_by h xs)
    ∙ ap (λ n. n * product_by g xs + f x * product_by h xs) (same_g x other)
    ∙ ap (λ n. g x * product_by g xs + n * product_by h xs) (same_h x other)

-- a product of numbers up to a most one, one of which is 1 at most: a power of the most one with one factor less
pub product_few : (most : ℕ) (f : ℕ → ℕ) → ((x : ℕ) → f x ≤ most) → (xs : List ℕ) → product_by f xs ≤ most ^ length xs
product_few most f few [] = rw (pow-zero most) (omega arith)
product_few most f few (x ∷ xs) =
    rw (pow-suc most (length xs)) (rw (mul_comm (most ^ length xs) most) (mul-le-mul (few x) (product_few most f few xs)))

pub product_fewer : (most : ℕ) (f : ℕ → ℕ) → ((x : ℕ) → f x ≤ most) → (own : ℕ) → f own ≤ 1
    → (xs : List ℕ) (k : ℕ) → k < length xs → get_or xs k own ≡ own → most * product_by f xs ≤ most ^ length xs
product_fewer most f few own single [] k within at = absurd (omega arith)
product_fewer most f few own single (x ∷ xs) zero within at =
    let one : f x ≤ 1 = rw at single in
    let all : f x * product_by f xs ≤ 1 * (most ^ length xs) = mul-le-mul one (product_few most f few xs) in
    let rest : f x * product_by f xs ≤ most ^ length xs = omega (arith, all) in
    let same : most ≤ most = omega arith in
    rw (pow-suc most (length xs)) (rw (mul_comm (most ^ length xs) most) (mul-le-mul same rest))
product_fewer most f few own single (x ∷ xs) (suc k) within at =
    let rest : most * product_by f xs ≤ most ^ length xs = product_fewer most f few own single xs k (omega arith) at in
    let all : f x * (most * product_by f xs) ≤ most * (most ^ length xs) = mul-le-mul (few x) rest in
    let swapped : most * (f x * product_by f xs) ≡ f x * (most * product_by f xs) =
    mul_left_comm most (f x) (product_by f xs) in
    rw (pow-suc most (length xs)) (rw (mul_comm (most ^ length xs) most) (rw swapped all))
