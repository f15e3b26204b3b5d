-- An arc of a node gets a new head: the other arcs and the other nodes stay as they are.
use Rattle.std.proofs.Common.{◌≡◌, inl, inr, ⊎_elim, ℕ, ◌+◌, ◌<◌, ◌∷◌, length, get_or-set_same, get_or-set_other, length-set, sym, ap, subst, ◌∙◌, arith}
use Rattle.path_laws.specs.declared.entry.TheConstants.{NONE}
use Rattle.path_laws.specs.Graph.{Graph, IsArcOf, IsGraph}
use Rattle.path_laws.specs.Walks.{walk_length}
use Rattle.path_laws.specs.Entries.{HasEntry, entry_at, walk_at}
use Rattle.path_laws.specs.Lists.{Lists, HasAllThrough, IsFreeRight, IsLinked, IsListedUpTo, IsReady, IsStarted, IsLastArc, head_of, key_at, with_head}
use Rattle.path_laws.specs.Lists.IsReady.{spent, headed}
use Rattle.path_laws.proofs.Arcs.{one_owner}

module _ (g : Graph) (st : Lists) (arc head : ℕ) where
  abbrev new : Lists
  new = with_head g st arc head

  pub links_kept : IsLinked g st → IsLinked g new
  links_kept linked = record {
    few = linked.few;
    next_each = linked.next_each;
    last_each = linked.last_each;
    head_each = length-set st.heads arc head ∙ linked.head_each;
    key_each = length-set st.keys arc (key_at g st.entries arc head) ∙ linked.key_each;
    free_each = linked.free_each;
    tails = linked.tails;
    nexts = linked.nexts;
    lasts = linked.lasts;
  }

  -- another arc keeps its head and its key
  pub ready_elsewhere : (node other : ℕ) → (other ≡ arc → ⊥) → IsReady g st node other → IsReady g new node other
  ready_elsewhere node other differs (spent key all) =
      spent (get_or-set_other st.keys arc other (key_at g st.entries arc head) 0 differs ∙ key) all
  ready_elsewhere node other differs (headed passed fresh key) =
      let same : head_of new other ≡ head_of st other = get_or-set_other st.heads arc other head 0 differs in
      headed
      (subst (IsListedUpTo g st.entries node other) (sym same) passed)
      (subst (λ h. HasEntry st.entries node (other ∷ walk_at st.entries h) → ⊥) (sym same) fresh)
      (get_or-set_other st.keys arc other (key_at g st.entries arc head) 0 differs ∙ key
      ∙ ap (λ h. walk_length g (other ∷ walk_at st.entries h) + 1) (sym same))

  pub taken_kept : (node other : ℕ) → IsLastArc g st node other → IsLastArc g new node other
  taken_kept node other taken = record {
    last = taken.last;
    by_arc = taken.by_arc;
    own = taken.own;
    tail = taken.tail;
    has = taken.has;
  }

  pub free_kept : (node : ℕ) → IsFreeRight g st node → IsFreeRight g new node
  free_kept node free = record { may = free.may; fresh = free.fresh; kept = free.kept }

  -- so the other nodes stay started
  pub others_started : IsGraph g → (node other : ℕ) → IsArcOf g node arc → (other ≡ node → ⊥) → IsStarted g st other
      → IsStarted g new other
  others_started graph node other own differs started = record {
    free = free_kept other started.free;
    arcs = λ a is. ⊎_elim
        (λ ready. inl (ready_elsewhere other a
        (λ same. differs (one_owner g graph other node arc (subst (IsArcOf g other) same is) own)) ready))
        (λ taken. inr (taken_kept other a taken))
        (started.arcs a is);
    taken = λ last some. taken_kept other _ (started.taken last some);
  }

  module _ (node : ℕ) (keys : arc < length st.keys) (heads : arc < length st.heads) where
    -- with no head the arc is spent
    pub ready_spent : head ≡ NONE → HasAllThrough g st.entries node arc → IsReady g new node arc
    ready_spent none all =
        spent (get_or-set_same st.keys arc (key_at g st.entries arc head) 0 keys
        ∙ ap (key_at g st.entries arc) none) all

    -- with a head that fits it is ready
    pub ready_headed : (head ≡ NONE → ⊥) → (entry_at st.entries head).length ≡ walk_length g (walk_at st.entries head)
        → IsListedUpTo g st.entries node arc head → (HasEntry st.entries node (arc ∷ walk_at st.entries head) → ⊥)
        → IsReady g new node arc
    ready_headed some long passed fresh =
        let same : head_of new arc ≡ head = get_or-set_same st.heads arc head 0 heads in
        headed
        (subst (IsListedUpTo g st.entries node arc) (sym same) passed)
        (subst (λ h. HasEntry st.entries node (arc ∷ walk_at st.entries h) → ⊥) (sym same) fresh)
        (get_or-set_same st.keys arc (key_at g st.entries arc head) 0 keys ∙ key_is
        ∙ ap (λ h. walk_length g (arc ∷ walk_at st.entries h) + 1) (sym same))
      where
        key_is : key_at g st.entries arc head ≡ walk_length g (arc ∷ walk_at st.entries head) + 1
        key_is = grind (arith, some, long)
