-- A walk over the nodes of a tree in preorder, with the halves above the node that it stands at. Behind that node wait the trees
-- of the second halves, one for each first half above.
use Rattle.std.proofs.Common.{◌≡◌, ℕ, ◌+◌, ◌⊎◌, inl, inr, true, false, List, [], ◌∷◌, ◌++◌, map, length, drop, refl, sym, ap, ◌∙◌, subst, append_assoc, arith}
use Rattle.std.specs.List.{flat_map}
use Rattle.std.proofs.lemmas.List.{append-nil, length-append}
use Rattle.std.proofs.lemmas.Bool.{false≢true}
use Rattle.state_laws.specs.declared.split.Split.{Split as CaseSplit}
use Rattle.state_laws.specs.declared.split.Half.{Half}
use Rattle.trees.specs.declared.tree.Node.{Node}
use Rattle.trees.specs.declared.tree.Node.TheVariants.{Split}
use Rattle.trees.specs.Trees.{Cases, preorder, is_split}
use Rattle.trees.specs.Trees.Cases.{closed, waiting, split_at}
use Rattle.state_laws.specs.Halves.{half_of}
use Rattle.trees.specs.Halves.{halves_of, turns, GoesOn}
use Rattle.trees.specs.Faults.{AreRight, IsFirstFault, root_of}
use Rattle.trees.specs.Faults.IsFirstFault.{at_root, in_first, in_second}

-- a tree below some halves, from the deepest up
pub record Part : Type 0 where
  pub above : List Half
  pub cases : Cases

-- the nodes of these trees, one behind another
abbrev pub nodes_of : List Part → List Node
nodes_of parts = flat_map (λ part. preorder part.cases) parts

-- the halves above these trees are those of a walk that stands at the first one, or there are no more trees
abbrev pub Follows : List Half → List Part → Type 0
Follows above parts = (parts ≡ []) ⊎ (map (λ part. part.above) parts ≡ above ∷ turns above)

module _ (IsRight : List Half → Node → Type 0) where
  -- each node of these trees is right
  abbrev pub AreAllRight : List Part → Type 0
  AreAllRight [] = Unit {0}
  AreAllRight (part ∷ parts) = AreRight IsRight (halves_of part.above) part.cases × AreAllRight parts

  -- the first node of these trees that is not
  pub data IsFaultIn : List Part → ℕ → Type 0 where
    here : {part : Part} {parts : List Part} {place : ℕ} → IsFirstFault IsRight (halves_of part.above) part.cases place
        → IsFaultIn (part ∷ parts) place
    later : {part : Part} {parts : List Part} {place : ℕ} → AreRight IsRight (halves_of part.above) part.cases
        → IsFaultIn parts place → IsFaultIn (part ∷ parts) (length (preorder part.cases) + place)

  -- a walk has come to this place of a tree's nodes, below these halves, and each node before was right
  pub record HasCome (whole : Cases) (nodes : List Node) (place : ℕ) (above : List Half) : Type 0 where
    pub parts : List Part
    pub rest : drop place nodes ≡ nodes_of parts
    pub follows : Follows above parts
    pub right : AreAllRight parts → AreRight IsRight [] whole
    pub fault : (more : ℕ) → IsFaultIn parts more → IsFirstFault IsRight [] whole (place + more)

  -- at the root
  pub come_none : (whole : Cases) → HasCome whole (preorder whole) 0 []
  come_none whole = record {
    parts = record { above = []; cases = whole } ∷ [];
    rest = sym (append-nil (preorder whole));
    follows = inr refl;
    right = λ all. all.0;
    fault = λ more fault. only more fault;
  }
    where
      none_in : (more : ℕ) → IsFaultIn [] more → ⊥
      none_in more fault = elim fault [ ]

      only : (more : ℕ) → IsFaultIn (record { above = []; cases = whole } ∷ []) more → IsFirstFault IsRight [] whole (0 + more)
      only more (here fault) = subst (IsFirstFault IsRight [] whole) (omega arith) fault
      only more (later right fault) = absurd (none_in _ fault)

  -- the tree that a walk stands at, and those behind it
  pub record Stands (whole : Cases) (nodes : List Node) (place : ℕ) (above : List Half) (node : Node) : Type 0 where
    pub cases : Cases
    pub behind : List Part
    pub rest : drop place nodes ≡ preorder cases ++ nodes_of behind
    pub root : root_of cases ≡ node
    pub follows : map (λ part. part.above) behind ≡ turns above
    pub right : AreRight IsRight (halves_of above) cases → AreAllRight behind → AreRight IsRight [] whole
    pub fault : (more : ℕ) → IsFaultIn (record { above = above; cases = cases } ∷ behind) more
        → IsFirstFault IsRight [] whole (place + more)

  -- where there is a node more, there is such a tree
  pub come_stands : (whole : Cases) (nodes : List Node) (place : ℕ) (above : List Half) (node : Node) (later_nodes : List Node)
      → drop place nodes ≡ node ∷ later_nodes → HasCome whole nodes place above → Stands whole nodes place above node
  come_stands whole nodes place above node later_nodes is come =
      by come.parts come.rest come.follows come.right come.fault
    where
      same_root : (cases : Cases) (more : List Node) → preorder cases ++ more ≡ node ∷ later_nodes → root_of cases ≡ node
      same_root closed more e = cc
      same_root waiting more e = cc
      same_root (split_at split first second) more e = cc

      by : (parts : List Part) → drop place nodes ≡ nodes_of parts → Follows above parts
          → (AreAllRight parts → AreRight IsRight [] whole)
          → ((more : ℕ) → IsFaultIn parts more → IsFirstFault IsRight [] whole (place + more))
          → Stands whole nodes place above node
      by [] rest follows right fault = let none : node ∷ later_nodes ≡ [] = sym is ∙ rest in cc
      by (part ∷ parts) rest follows right fault =
          elim follows [
            | inl none ↦ cc
            | inr same ↦ standing part parts rest same right fault
          ]
        where
          standing : (part : Part) (parts : List Part) → drop place nodes ≡ nodes_of (part ∷ parts)
              → part.above ∷ map (λ p. p.above) parts ≡ above ∷ turns above
              → (AreAllRight (part ∷ parts) → AreRight IsRight [] whole)
              → ((more : ℕ) → IsFaultIn (part ∷ parts) more → IsFirstFault IsRight [] whole (place + more))
              → Stands whole nodes place above node
          standing part parts rest same right fault =
              let at : part.above ≡ above = cc in
              let is_part : part ≡ record { above = above; cases = part.cases } =
              ap (λ (a : List Half). let p : Part = record { above = a; cases = part.cases } in p) at in
              record {
                cases = part.cases;
                behind = parts;
                rest = rest;
                root = same_root part.cases (nodes_of parts) (sym rest ∙ is);
                follows = cc;
                right = λ here_right all. right (
                  let P : List Half → Type 0 = λ a. AreRight IsRight (halves_of a) part.cases in
                      subst P (sym at) here_right,
                  all,
                );
                fault = λ more is_fault. fault more
                    (let P : Part → Type 0 = λ p. IsFaultIn (p ∷ parts) more in subst P (sym is_part) is_fault);
              }

  -- the first node that is not right, if all before are
  pub stands_fault : (whole : Cases) (nodes : List Node) (place : ℕ) (above : List Half) (node : Node)
      → Stands whole nodes place above node → (IsRight (halves_of above) node → ⊥) → IsFirstFault IsRight [] whole place
  stands_fault whole nodes place above node stands wrong =
      subst (IsFirstFault IsRight [] whole) (omega arith)
      (stands.fault 0 (here (at_root (subst (λ (n : Node). IsRight (halves_of above) n → ⊥) (sym stands.root) wrong))))

  -- at the end all are right
  pub come_all : (whole : Cases) (nodes : List Node) (place : ℕ) (above : List Half) → drop place nodes ≡ []
      → HasCome whole nodes place above → AreRight IsRight [] whole
  come_all whole nodes place above none come = by come.parts (sym none ∙ come.rest) come.right
    where
      some : (cases : Cases) (more : List Node) → [] ≡ preorder cases ++ more → ⊥
      some closed more e = cc
      some waiting more e = cc
      some (split_at split first second) more e = cc

      by : (parts : List Part) → [] ≡ nodes_of parts → (AreAllRight parts → AreRight IsRight [] whole) → AreRight IsRight [] whole
      by [] e right = right tt
      by (part ∷ parts) e right = absurd (some part.cases (nodes_of parts) e)

  -- behind a leaf that is right
  pub come_leaf : (whole : Cases) (nodes : List Node) (place : ℕ) (above next : List Half) (node : Node)
      → drop place nodes ≡ node ∷ drop (place + 1) nodes → is_split node ≡ false → IsRight (halves_of above) node
      → GoesOn above next → HasCome whole nodes place above → HasCome whole nodes (place + 1) next
  come_leaf whole nodes place above next node is leaf is_right goes come =
      let stands = come_stands whole nodes place above node (drop (place + 1) nodes) is come in
      by stands.cases stands.behind (sym is ∙ stands.rest) stands.root stands.follows stands.right stands.fault
    where
      none : (parts : List Part) → map (λ part. part.above) parts ≡ [] → parts ≡ []
      none [] e = refl
      none (part ∷ parts) e = cc

      follow : (parts : List Part) → map (λ part. part.above) parts ≡ turns above → Follows next parts
      follow parts e = elim goes [ inl last ↦ inl (none parts (e ∙ last)) | inr more ↦ inr (e ∙ more) ]

      stepped : (cases : Cases) (behind : List Part) → preorder cases ≡ node ∷ [] → AreRight IsRight (halves_of above) cases
          → node ∷ drop (place + 1) nodes ≡ preorder cases ++ nodes_of behind
          → map (λ part. part.above) behind ≡ turns above
          → (AreRight IsRight (halves_of above) cases → AreAllRight behind → AreRight IsRight [] whole)
          → ((more : ℕ) → IsFaultIn (record { above = above; cases = cases } ∷ behind) more → IsFirstFault IsRight [] whole (place + more))
          → HasCome whole nodes (place + 1) next
      stepped cases behind spelled here_right rest follows right fault =
          let both : node ∷ drop (place + 1) nodes ≡ node ∷ nodes_of behind =
          rest ∙ ap (λ (ns : List Node). ns ++ nodes_of behind) spelled in
          record {
            parts = behind;
            rest = cc;
            follows = follow behind follows;
            right = λ all. right here_right all;
            fault = λ more is_fault. subst (IsFirstFault IsRight [] whole) (omega (arith, ap length spelled))
                (fault (length (preorder cases) + more) (later here_right is_fault));
          }

      by : (cases : Cases) (behind : List Part)
          → node ∷ drop (place + 1) nodes ≡ preorder cases ++ nodes_of behind
          → root_of cases ≡ node
          → map (λ part. part.above) behind ≡ turns above
          → (AreRight IsRight (halves_of above) cases → AreAllRight behind → AreRight IsRight [] whole)
          → ((more : ℕ) → IsFaultIn (record { above = above; cases = cases } ∷ behind) more → IsFirstFault IsRight [] whole (place + more))
          → HasCome whole nodes (place + 1) next
      by closed behind rest root follows right fault =
          stepped closed behind (ap (λ (n : Node). n ∷ []) root)
          (subst (IsRight (halves_of above)) (sym root) is_right) rest follows right fault
      by waiting behind rest root follows right fault =
          stepped waiting behind (ap (λ (n : Node). n ∷ []) root)
          (subst (IsRight (halves_of above)) (sym root) is_right) rest follows right fault
      by (split_at split first second) behind rest root follows right fault =
          absurd (false≢true (sym leaf ∙ ap is_split (sym root)))

  module _ (whole : Cases) (nodes : List Node) (place : ℕ) (above : List Half) (split : CaseSplit)
      (is_right : IsRight (halves_of above) (Split split)) (behind : List Part) (first second : Cases) where
    -- the cases at which the walk stands, split so
    abbrev here_cases : Cases
    here_cases = split_at split first second

    abbrev in_halves : List Part
    in_halves =
        record { above = half_of split false ∷ above; cases = first } ∷ record { above = half_of split true ∷ above; cases = second } ∷ behind

    counted : length (preorder here_cases) ≡ 1 + (length (preorder first) + length (preorder second))
    counted = omega (arith, length-append (preorder first) (preorder second))

    moved : ((more : ℕ) → IsFaultIn (record { above = above; cases = here_cases } ∷ behind) more
        → IsFirstFault IsRight [] whole (place + more))
        → (more : ℕ) → IsFaultIn in_halves more → IsFirstFault IsRight [] whole (place + 1 + more)
    moved fault more (here is_fault) =
        subst (IsFirstFault IsRight [] whole) (omega arith) (fault (1 + more) (here (in_first is_right is_fault)))
    moved fault more (later right_first (here {place = inner} is_fault)) =
        subst (IsFirstFault IsRight [] whole) (omega arith)
        (fault (1 + (length (preorder first) + inner)) (here (in_second is_right right_first is_fault)))
    moved fault more (later right_first (later {place = inner} right_second is_fault)) =
        subst (IsFirstFault IsRight [] whole) (omega (arith, counted))
        (fault (length (preorder here_cases) + inner) (later (is_right, right_first, right_second) is_fault))

    come_parted : Split split ∷ drop (place + 1) nodes ≡ preorder here_cases ++ nodes_of behind
        → map (λ part. part.above) behind ≡ turns above
        → (AreRight IsRight (halves_of above) here_cases → AreAllRight behind → AreRight IsRight [] whole)
        → ((more : ℕ) → IsFaultIn (record { above = above; cases = here_cases } ∷ behind) more
        → IsFirstFault IsRight [] whole (place + more))
        → HasCome whole nodes (place + 1) (half_of split false ∷ above)
    come_parted rest follows right fault =
        let behind_node : drop (place + 1) nodes ≡ (preorder first ++ preorder second) ++ nodes_of behind = cc in
        record {
          parts = in_halves;
          rest = behind_node ∙ append_assoc (preorder first) (preorder second) (nodes_of behind);
          follows = inr (ap (λ (ls : List (List Half)). (half_of split false ∷ above) ∷ (half_of split true ∷ above) ∷ ls) follows);
          right = λ all. right (is_right, all.0, all.1.0) all.1.1;
          fault = moved fault;
        }

  -- below a split that is right, in its first half
  pub come_split : (whole : Cases) (nodes : List Node) (place : ℕ) (above : List Half) (split : CaseSplit)
      → drop place nodes ≡ Split split ∷ drop (place + 1) nodes → IsRight (halves_of above) (Split split)
      → HasCome whole nodes place above → HasCome whole nodes (place + 1) (half_of split false ∷ above)
  come_split whole nodes place above split is is_right come =
      let stands = come_stands whole nodes place above (Split split) (drop (place + 1) nodes) is come in
      by stands.cases stands.root stands.behind (sym is ∙ stands.rest) stands.follows stands.right stands.fault
    where
      by : (cases : Cases) → root_of cases ≡ Split split → (behind : List Part)
          → Split split ∷ drop (place + 1) nodes ≡ preorder cases ++ nodes_of behind
          → map (λ part. part.above) behind ≡ turns above
          → (AreRight IsRight (halves_of above) cases → AreAllRight behind → AreRight IsRight [] whole)
          → ((more : ℕ) → IsFaultIn (record { above = above; cases = cases } ∷ behind) more → IsFirstFault IsRight [] whole (place + more))
          → HasCome whole nodes (place + 1) (half_of split false ∷ above)
      by closed root behind rest follows right fault = cc
      by waiting root behind rest follows right fault = cc
      by (split_at other first second) root behind rest follows right fault =
          let same : other ≡ split = cc in
          let P : CaseSplit → Type 0 = λ s. IsRight (halves_of above) (Split s) → HasCome whole nodes (place + 1) (half_of s false ∷ above) in
          subst P same (λ right_here. come_parted whole nodes place above other right_here behind first second (cc) follows right fault) is_right
