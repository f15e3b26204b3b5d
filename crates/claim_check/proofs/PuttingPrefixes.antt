-- Prefixes by their nodes, while more of them are put last.
use Rattle.std.proofs.Common.{◌≡◌, ⊎_elim, Bool, true, false, true≢false, ◌&&◌, eqb, eq-eqb, cond, ℕ, zero, suc, ◌+◌, ◌<◌, ◌≤◌, List, [], ◌∷◌, ◌++◌, length, take, take-suc, get_or, refl, sym, ap, ap₂, subst, ◌∙◌, append_assoc, append-nil, arith}
use Rattle.std.specs.Prelude.{Contains, slice_get, Some}
use Rattle.std.specs.Bool.{Decides}
use Rattle.std.specs.List.{list_any}
use Rattle.std.proofs.lemmas.Bool.{and_parts, cases_lt, eqb-true}
use Rattle.std.proofs.lemmas.List.{get_or-take, get_or_append_left, get_or_push, length-take-le, length_push, take-take}
use Rattle.std.proofs.lemmas.List.Elements.{Contains-append_left, Contains-push}
use Rattle.std.proofs.lemmas.List.Folds.{list_any_at}
use Rattle.std.proofs.lemmas.Option.{get_or_from_slice_get, same_Some, slice_get_within}
use Rattle.pd_base.specs.declared.ids.LineId.{LineId}
use Rattle.pd_base.specs.declared.ids.PinRef.{PinRef}
use Rattle.pd_base.specs.Route.{Route}
use Rattle.netlist.specs.Paths.{prefix_of}
use Rattle.good_runs.proofs.Numbers.{get_at, get_kept, get_of_push}
use Rattle.claim_check.specs.declared.prefix_tree.Prefix.{Prefix}
use Rattle.claim_check.specs.declared.prefix_tree.Prefix.TheVariants.{Source, Longer}
use Rattle.claim_check.specs.PrefixNodes.{AreOnce, ArePut, IsPrefixNode, IsPut}
use Rattle.claim_check.specs.PrefixNodes.IsPut.{there, last}
use Rattle.claim_check.proofs.SamePaths.{is_one_pin, one_pin_decided}

-- the first steps of two paths are the same where those before the last are, and the last
longer_same : (p q : Route) (steps more : ℕ) (pin : PinRef) → prefix_of steps p ≡ prefix_of more q → slice_get p.steps steps ≡ Some pin
    → slice_get q.steps more ≡ Some pin → prefix_of (suc steps) p ≡ prefix_of (suc more) q
longer_same p q steps more pin same own its =
    let source = ap (λ (route : Route). route.source) same in
    let first = ap (λ (route : Route). route.steps) same in
    let one = take-suc p.steps steps pin (slice_get_within p.steps steps pin own) in
    let two = take-suc q.steps more pin (slice_get_within q.steps more pin its) in
    let last_own = get_or_from_slice_get p.steps steps pin pin own in
    let last_its = get_or_from_slice_get q.steps more pin pin its in
    let all =
    one ∙ ap (λ (d : PinRef). take steps p.steps ++ d ∷ []) (last_own ∙ sym last_its)
    ∙ ap (λ (list : List PinRef). list ++ get_or q.steps more pin ∷ []) first ∙ sym two in
    λ i. record { source = source i; steps = all i }

-- so many steps of a path are so many
pub prefix_long : (path : Route) (steps : ℕ) → steps ≤ length path.steps → length (prefix_of steps path).steps ≡ steps
prefix_long path steps within = length-take-le steps path.steps within

-- so prefixes of different lengths differ
pub same_length : (p q : Route) (steps more : ℕ) → steps ≤ length p.steps → more ≤ length q.steps → prefix_of steps p ≡ prefix_of more q
    → steps ≡ more
same_length p q steps more within its same =
    sym (prefix_long p steps within) ∙ ap (λ (route : Route). length route.steps) same ∙ prefix_long q more its

module _ (prefixes : List Prefix) where
  -- a node keeps its prefix as more are put last
  pub node_kept : (more : List Prefix) (path : Route) (steps node : ℕ) → IsPrefixNode prefixes path steps node
      → IsPrefixNode (prefixes ++ more) path steps node
  node_kept more path zero node is = get_kept prefixes more node (Source path.source) is
  node_kept more path (suc steps) node is =
      (is.0, is.1, node_kept more path steps is.0 is.2, is.3, get_kept prefixes more node (Longer is.0 is.1) is.4)

  -- a node is one of so many
  pub node_inside : (path : Route) (steps node : ℕ) → IsPrefixNode prefixes path steps node → node < length prefixes
  node_inside path zero node is = slice_get_within prefixes node (Source path.source) is
  node_inside path (suc steps) node is = slice_get_within prefixes node (Longer is.0 is.1) is.4

  -- a node is that of one prefix
  pub prefix_of_node : (p q : Route) (steps more node : ℕ) → IsPrefixNode prefixes p steps node → IsPrefixNode prefixes q more node
      → prefix_of steps p ≡ prefix_of more q
  prefix_of_node p q zero zero node own its =
      let same : Source p.source ≡ Source q.source = same_Some (Source p.source) (Source q.source) (sym own ∙ its) in
      let source : p.source ≡ q.source = cc in
      λ i. record { source = source i; steps = [] }
  prefix_of_node p q zero (suc more) node own its =
      let same : Source p.source ≡ Longer its.0 its.1 = same_Some (Source p.source) (Longer its.0 its.1) (sym own ∙ its.4) in
      let impossible : ⊥ = cc in absurd impossible
  prefix_of_node p q (suc steps) zero node own its =
      let same : Longer own.0 own.1 ≡ Source q.source = same_Some (Longer own.0 own.1) (Source q.source) (sym own.4 ∙ its) in
      let impossible : ⊥ = cc in absurd impossible
  prefix_of_node p q (suc steps) (suc more) node own its =
      let same : Longer own.0 own.1 ≡ Longer its.0 its.1 = same_Some (Longer own.0 own.1) (Longer its.0 its.1) (sym own.4 ∙ its.4) in
      let shorter : own.0 ≡ its.0 = cc in
      let pin : own.1 ≡ its.1 = cc in
      let P : ℕ → Type 0 = λ n. IsPrefixNode prefixes p steps n in
      let Q : PinRef → Type 0 = λ x. slice_get p.steps steps ≡ Some x in
      longer_same p q steps more its.1 (prefix_of_node p q steps more its.0 (subst P shorter own.2) its.2) (subst Q pin own.3) its.3

  module _ (once : AreOnce prefixes) where
    -- one prefix has one node
    node_of_same : (p q : Route) (steps node other : ℕ) → IsPrefixNode prefixes p steps node → IsPrefixNode prefixes q steps other
        → prefix_of steps p ≡ prefix_of steps q → node ≡ other
    node_of_same p q zero node other own its same =
        let source = ap (λ (route : Route). route.source) same in
        once node other (Source p.source) own
        (subst (λ (line : LineId). slice_get prefixes other ≡ Some (Source line)) (sym source) its)
    node_of_same p q (suc steps) node other own its same =
        let source = ap (λ (route : Route). route.source) same in
        let all = ap (λ (route : Route). route.steps) same in
        let less : steps < suc steps = omega arith in
        let few : steps ≤ suc steps = omega arith in
        let first = sym (take-take steps (suc steps) p.steps few) ∙ ap (take steps) all ∙ take-take steps (suc steps) q.steps few in
        let front : prefix_of steps p ≡ prefix_of steps q = λ i. record { source = source i; steps = first i } in
        let shorter = node_of_same p q steps own.0 its.0 own.2 its.2 front in
        let d = own.1 in
        let pin =
        sym (get_or_from_slice_get p.steps steps own.1 d own.3) ∙ sym (get_or-take (suc steps) p.steps steps d less)
        ∙ ap (λ (list : List PinRef). get_or list steps d) all ∙ get_or-take (suc steps) q.steps steps d less
        ∙ get_or_from_slice_get q.steps steps its.1 d its.3 in
        let P : ℕ → Type 0 = λ n. slice_get prefixes other ≡ Some (Longer n its.1) in
        let Q : PinRef → Type 0 = λ x. slice_get prefixes other ≡ Some (Longer own.0 x) in
        once node other (Longer own.0 own.1) own.4 (subst Q (sym pin) (subst P (sym shorter) its.4))

    pub node_of_prefix : (p q : Route) (steps more node other : ℕ) → steps ≤ length p.steps → more ≤ length q.steps
        → IsPrefixNode prefixes p steps node → IsPrefixNode prefixes q more other → prefix_of steps p ≡ prefix_of more q → node ≡ other
    node_of_prefix p q steps more node other within inside own its same =
        let long = same_length p q steps more within inside same in
        let P : ℕ → Type 0 = λ k. IsPrefixNode prefixes q k other in
        let Q : ℕ → Type 0 = λ k. prefix_of steps p ≡ prefix_of k q in
        node_of_same p q steps node other own (subst P (sym long) its) (subst Q (sym long) same)

module _ (old new : List Prefix) (prefix : Prefix) (node : ℕ) where
  -- what was put has its node
  pub put_is : IsPut old prefix new node → slice_get new node ≡ Some prefix
  put_is (there is same) = subst (λ (list : List Prefix). slice_get list node ≡ Some prefix) (sym same) is
  put_is (last none same at) =
      subst (λ (list : List Prefix). slice_get list node ≡ Some prefix) (sym same)
      (subst (λ (k : ℕ). slice_get (old ++ prefix ∷ []) k ≡ Some prefix) (sym at) (get_at old prefix []))

  -- those that were there stay
  put_keeps : IsPut old prefix new node → (more : List Prefix) × (new ≡ old ++ more)
  put_keeps (there is same) = ([], same ∙ sym (append-nil old))
  put_keeps (last none same at) = (prefix ∷ [], same)

  -- and none is there twice
  put_once : IsPut old prefix new node → AreOnce old → AreOnce new
  put_once (there is same) once = subst AreOnce (sym same) once
  put_once (last none same at) once = subst AreOnce (sym same) pushed
    where
      not_there : (place : ℕ) (other : Prefix) → slice_get old place ≡ Some other → prefix ≡ other → ⊥
      not_there place other is e =
          none (place, slice_get_within old place other is, get_or_from_slice_get old place other prefix is ∙ sym e)

      pushed : AreOnce (old ++ prefix ∷ [])
      pushed one two other at_one at_two =
          ⊎_elim
          (λ (before : slice_get old one ≡ Some other).
          ⊎_elim (λ (also : slice_get old two ≡ Some other). once one two other before also)
          (λ (here : (two ≡ length old) × (prefix ≡ other)). absurd (not_there one other before here.1))
          (get_of_push old prefix other two at_two))
          (λ (here : (one ≡ length old) × (prefix ≡ other)).
          ⊎_elim (λ (before : slice_get old two ≡ Some other). absurd (not_there two other before here.1))
          (λ (also : (two ≡ length old) × (prefix ≡ other)). here.0 ∙ sym also.0) (get_of_push old prefix other two at_two))
          (get_of_push old prefix other one at_one)

pub put_none : (old : List Prefix) → ArePut old old []
put_none old = record {
  more = [];
  puts = sym (append-nil old);
  once = λ is. is;
  few = omega arith;
  all = λ node past within. absurd (omega arith);
}

-- one more is put
pub put_more : (old mid new : List Prefix) (nodes : List ℕ) (prefix : Prefix) (node : ℕ) → ArePut old mid nodes → IsPut mid prefix new node
    → ArePut old new (nodes ++ node ∷ [])
put_more old mid new nodes prefix node are put = by put
  where
    long : length (nodes ++ node ∷ []) ≡ length nodes + 1
    long = length_push nodes node

    by : IsPut mid prefix new node → ArePut old new (nodes ++ node ∷ [])
    by (there is same) = record {
      more = are.more;
      puts = same ∙ are.puts;
      once = λ is_once. put_once mid new prefix node put (are.once is_once);
      few = let few = are.few in let many = long in omega arith;
      all = λ other past within.
          let count = ap length same in
          Contains-append_left nodes (node ∷ []) other (are.all other past (omega arith));
    }
    by (last none same at) = record {
      more = are.more ++ prefix ∷ [];
      puts = same ∙ ap (λ (list : List Prefix). list ++ prefix ∷ []) are.puts ∙ append_assoc old are.more (prefix ∷ []);
      once = λ is_once. put_once mid new prefix node put (are.once is_once);
      few = let few = are.few in let many = long in let count = length_push are.more prefix in omega arith;
      all = λ other past within.
          let count = ap length same ∙ length_push mid prefix in
          ⊎_elim (λ (before : other < length mid). Contains-append_left nodes (node ∷ []) other (are.all other past before))
          (λ (most : length mid ≤ other).
          let here : node ≡ other = omega arith in
          subst (Contains (nodes ++ node ∷ [])) here (Contains-push nodes node))
          (cases_lt other (length mid));
    }

-- the node of a path's next prefix goes behind those of the shorter ones
module _ (mid new : List Prefix) (path : Route) (nodes : List ℕ) (place : ℕ) (pin : PinRef) (node : ℕ) (long : length nodes ≡ place + 1)
    (reads : slice_get path.steps place ≡ Some pin)
    (own : (steps : ℕ) → steps ≤ place → IsPrefixNode mid path steps (get_or nodes steps 0))
    (put : IsPut mid (Longer (get_or nodes place 0) pin) new node) where
  still_own : (steps : ℕ) → steps ≤ place → IsPrefixNode new path steps (get_or nodes steps 0)
  still_own steps few =
      let keeps = put_keeps mid new (Longer (get_or nodes place 0) pin) node put in
      subst (λ (list : List Prefix). IsPrefixNode list path steps (get_or nodes steps 0)) (sym keeps.1)
      (node_kept mid keeps.0 path steps (get_or nodes steps 0) (own steps few))

  next_own : IsPrefixNode new path (suc place) node
  next_own =
      (get_or nodes place 0, pin, still_own place (omega arith), reads, put_is mid new (Longer (get_or nodes place 0) pin) node put)

  pub node_pushed : (steps : ℕ) → steps ≤ place + 1 → IsPrefixNode new path steps (get_or (nodes ++ node ∷ []) steps 0)
  node_pushed steps within =
      ⊎_elim
      (λ (less : steps < place + 1).
      let at = get_or_append_left nodes (node ∷ []) 0 steps (omega arith) in
      subst (IsPrefixNode new path steps) (sym at) (still_own steps (omega arith)))
      (λ (most : place + 1 ≤ steps).
      let here : suc place ≡ steps = omega arith in
      let at : get_or (nodes ++ node ∷ []) steps 0 ≡ node = get_or_push nodes node 0 steps (omega arith) in
      subst (IsPrefixNode new path steps) (sym at) (subst (λ (k : ℕ). IsPrefixNode new path k node) here next_own))
      (cases_lt steps (place + 1))

-- what a set does that takes equal prefixes for one
pub put_by : (eq : Prefix → Prefix → Bool) → ((a b : Prefix) → Decides (eq a b) (a ≡ b)) → (old new : List Prefix) (prefix : Prefix) (node : ℕ)
    → new ≡ cond (list_any (eq prefix) old) old (old ++ prefix ∷ [])
    → (k : Prefix) × (slice_get new node ≡ Some k) × (eq prefix k ≡ true) → IsPut old prefix new node
put_by eq decides old new prefix node keys stored = by (list_any (eq prefix) old) refl
  where
    same : prefix ≡ stored.0
    same = (decides prefix stored.0).0 stored.2

    read : slice_get new node ≡ Some prefix
    read = subst (λ (k : Prefix). slice_get new node ≡ Some k) (sym same) stored.1

    by : (b : Bool) → list_any (eq prefix) old ≡ b → IsPut old prefix new node
    by true has =
        let kept : new ≡ old = keys ∙ ap (λ (b : Bool). cond b old (old ++ prefix ∷ [])) has in
        there (subst (λ (list : List Prefix). slice_get list node ≡ Some prefix) kept read) kept
    by false none =
        let pushed : new ≡ old ++ prefix ∷ [] = keys ∙ ap (λ (b : Bool). cond b old (old ++ prefix ∷ [])) none in
        let absent : ¬ Contains old prefix =
        λ has. true≢false
        (sym (list_any_at (eq prefix) old has.0 prefix has.1 ((decides prefix (get_or old has.0 prefix)).1 (sym has.2))) ∙ none) in
        let at = subst (λ (list : List Prefix). slice_get list node ≡ Some prefix) pushed read in
        last absent pushed
        (⊎_elim
        (λ (before : slice_get old node ≡ Some prefix).
        absurd (absent (node, slice_get_within old node prefix before, get_or_from_slice_get old node prefix prefix before)))
        (λ (here : (node ≡ length old) × (prefix ≡ prefix)). here.0)
        (get_of_push old prefix prefix node at))

-- whether two prefixes are one
abbrev pub is_one_prefix : Prefix → Prefix → Bool
is_one_prefix (Source a) (Source b) = eqb a.0 b.0
is_one_prefix (Source a) (Longer m p) = false
is_one_prefix (Longer n p) (Source b) = false
is_one_prefix (Longer n p) (Longer m q) = eqb n m && is_one_pin p q

pub one_prefix_decided : (a b : Prefix) → Decides (is_one_prefix a b) (a ≡ b)
one_prefix_decided (Source a) (Source b) = (
  λ is. let number = eqb-true a.0 b.0 is in λ i. Source (record { 0 = number i }),
  λ same. let source : a ≡ b = cc in eq-eqb a.0 b.0 (ap (λ (line : LineId). line.0) source),
)
one_prefix_decided (Source a) (Longer m p) =
    (λ is. absurd (true≢false (sym is)), λ same. let impossible : ⊥ = cc in absurd impossible)
one_prefix_decided (Longer n p) (Source b) =
    (λ is. absurd (true≢false (sym is)), λ same. let impossible : ⊥ = cc in absurd impossible)
one_prefix_decided (Longer n p) (Longer m q) = (
  λ is.
      let both = and_parts (eqb n m) (is_one_pin p q) is in
      let number = eqb-true n m both.0 in
      let pin = (one_pin_decided p q).0 both.1 in
      λ i. Longer (number i) (pin i),
  λ same.
      let number : n ≡ m = cc in
      let pin : p ≡ q = cc in
      ap₂ (λ x y. x && y) (eq-eqb n m number) ((one_pin_decided p q).1 pin),
)
