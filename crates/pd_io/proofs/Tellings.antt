-- What is told over several calls.
use Rattle.std.proofs.Common.{◌≡◌, Option, None, Some, Result, Ok, Err, OnErr, sym, subst}
use Rattle.pd_io.specs.Telling.{Tells}

-- what holds between each value and itself is told where nothing changed
pub tells_same : {A : Type 0} (a : Option A) (P : A → A → Type 0) → ((x : A) → P x x) → Tells a a P
tells_same None P r = tt
tells_same (Some x) P r = r x

-- what two calls tell, one after the other
pub tells_chain : {A : Type 0} (a b c : Option A) (P Q R : A → A → Type 0) → Tells a b P → Tells b c Q
    → ((x y z : A) → P x y → Q y z → R x z) → Tells a c R
tells_chain None None None P Q R p q r = p
tells_chain None None (Some z) P Q R p q r = q
tells_chain None (Some y) c P Q R p q r = absurd p
tells_chain (Some x) None c P Q R p q r = absurd p
tells_chain (Some x) (Some y) None P Q R p q r = absurd q
tells_chain (Some x) (Some y) (Some z) P Q R p q r = r x y z p q

-- what follows from what one call tells
pub tells_weaker : {A : Type 0} (a b : Option A) (P R : A → A → Type 0) → Tells a b P → ((x y : A) → P x y → R x y) → Tells a b R
tells_weaker None None P R p r = p
tells_weaker None (Some y) P R p r = p
tells_weaker (Some x) None P R p r = p
tells_weaker (Some x) (Some y) P R p r = r x y p

-- what follows from what is told twice of one state
tells_at : {A : Type 0} (a b : Option A) (P R : A → A → Type 0) (Q : A → Type 0) → Tells a b P → Tells b b (λ y _. Q y)
    → ((x y : A) → P x y → Q y → R x y) → Tells a b R
tells_at None None P R Q p q r = p
tells_at None (Some y) P R Q p q r = p
tells_at (Some x) None P R Q p q r = p
tells_at (Some x) (Some y) P R Q p q r = r x y p q

-- what a second call tells that leaves all as it was
pub tells_unchanged : {A : Type 0} (a b c : Option A) (P R : A → A → Type 0) (Q : A → Type 0) → Tells a b P → Tells b c (λ y _. Q y)
    → c ≡ b → ((x y : A) → P x y → Q y → R x y) → Tells a c R
tells_unchanged {A} a b c P R Q p q e r =
    let F : Option A → Type 0 = λ w. Tells b w (λ y _. Q y) in
    let G : Option A → Type 0 = λ w. Tells a w R in
    subst G (sym e) (tells_at a b P R Q p (subst F e q) r)

-- what holds, holds where there is an error
pub on_err : {T E P : Type 0} (r : Result T E) → P → OnErr r P
on_err (Ok x) p = tt
on_err (Err e) p = p
