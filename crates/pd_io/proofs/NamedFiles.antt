-- What named files hold, before and after a change.
use Rattle.std.proofs.Common.{◌≡◌, ℕ, Bool, true, false, cond, List, [], ◌++◌, Option, Some, String, Vec, BTreeMap, refl, sym, ap, ◌∙◌, option_map, unwrap_or}
use Rattle.std.proofs.lemmas.Map.Text.{btree_map_updates_text}
use Rattle.std.specs.BTreeMap as tree
use Rattle.std.specs.Str.{bytes_eq}
use Rattle.std.specs.Ordering.{nat_cmp}
use Rattle.std.specs.Cmp.Lexicographic.{slice_cmp, nat_list_eq_equiv}
use Rattle.std.specs.String.{string_cmp, string_bytes}
use Rattle.std.proofs.lemmas.Slice.Eq.{bytes_eq-Decides}
use Rattle.pd_io.specs.Folder.{Contents, bytes_at, put}
use Rattle.pd_io.specs.Shelf.{contents_of}

-- what stands under a name may be put there again
kept : (held : Contents) (name bytes other : List ℕ) (b : Bool) → b ≡ bytes_eq other name → held name ≡ Some bytes
    → cond b (Some bytes) (held other) ≡ held other
kept held name bytes other true e h =
    let same : other ≡ name = (bytes_eq-Decides other name).0 (sym e) in
    sym (ap held same ∙ h)
kept held name bytes other false e h = refl

-- putting under a name what stands there changes nothing
put_same : (held : Contents) (name bytes : List ℕ) → held name ≡ Some bytes → put held name bytes ≡ held
put_same held name bytes h = λ i other. kept held name bytes other (bytes_eq other name) refl h i

-- of two values the bytes of one are picked
picked : {Z : Type 0} (b c : Bool) (x : Vec ℕ Z) (found : Option (Vec ℕ Z)) → b ≡ c
    → option_map (λ (bytes : Vec ℕ Z). bytes.items) (cond b (Some x) found)
    ≡ cond c (Some x.items) (option_map (λ (bytes : Vec ℕ Z). bytes.items) found)
picked true c x found e = rw (← e) refl
picked false c x found e = rw (← e) refl

module _ {Y Z : Type 0} where
  -- other bytes under a name
  pub contents_of-update : (old new : BTreeMap (String Y) (Vec ℕ Z)) (name : List ℕ) (bytes : Vec ℕ Z)
      → tree.UpdatesBy string_cmp (λ k. slice_cmp nat_cmp name (string_bytes k)) old new (Some bytes)
      → contents_of new ≡ put (contents_of old) name bytes.items
  contents_of-update old new name bytes u = λ i other.
      let e = ap (option_map (λ (v : Vec ℕ Z). v.items)) (btree_map_updates_text name old new (Some bytes) u other)
      ∙ picked (bytes_eq name other) (bytes_eq other name) bytes (tree.get_by_text old other) (nat_list_eq_equiv.symm name other)
      in e i

  -- the bytes under a name are changed, from these to those
  module _ (old new : BTreeMap (String Y) (Vec ℕ Z)) (name : List ℕ) (from to : Vec ℕ Z)
      (found : tree.get_by_text old name ≡ Some from)
      (changed : tree.UpdatesBy string_cmp (λ k. slice_cmp nat_cmp name (string_bytes k)) old new (Some to)) where
    stood : contents_of old name ≡ Some from.items
    stood = ap (option_map (λ (v : Vec ℕ Z). v.items)) found

    -- more bytes stand there
    pub contents_of-more : (more : List ℕ) → to.items ≡ from.items ++ more
        → contents_of new ≡ put (contents_of old) name (bytes_at (contents_of old) name ++ more)
    contents_of-more more e =
        let before : from.items ≡ bytes_at (contents_of old) name = ap (λ o. unwrap_or o []) (sym stood) in
        contents_of-update old new name to changed ∙ ap (put (contents_of old) name) (e ∙ ap (λ l. l ++ more) before)

    -- the same bytes stand there
    pub contents_of-same : to.items ≡ from.items → contents_of new ≡ contents_of old
    contents_of-same e =
        contents_of-update old new name to changed ∙ ap (put (contents_of old) name) e
        ∙ put_same (contents_of old) name from.items stood
