-- What is written of one object stands in its element alone, and the objects stand in their order.
use Rattle.std.proofs.Common.{◌≡◌, ◌≢◌, ℕ, zero, suc, ◌+◌, ◌≤◌, cond, List, [], ◌∷◌, ◌++◌, map, refl, sym, ◌∙◌, ap, ap₂, subst, arith, Option, None, Some, inl, inr, append-nil}
use Rattle.std.specs.Prelude.{◌==◌, Contains, filter, filter_map}
use Rattle.std.specs.List.{flat_map, cons_option}
use Rattle.std.proofs.lemmas.Bool.{cases_eq, eq-eqb, ne_eqb, cond-true, cond-false}
use Rattle.std.proofs.lemmas.List.{map-append}
use Rattle.std.proofs.lemmas.List.Elements.{filter-append, filter_map-append}
use Rattle.object_tables.specs.declared.limit.TheConstants.{MAX_DEPTH}
use Rattle.mof_metamodel.proofs.DistinctLemmas.{IsOnce}
use Rattle.mof_metamodel.proofs.PropLemmas.{to_flat_map}
use Rattle.object_tables.specs.declared.value.Value.{Value}
use Rattle.object_tables.specs.Containment.{IsAcyclic, IsDepth}
use Rattle.object_tables.specs.Kept.{Kept}
use Rattle.object_tables.specs.Models.{ModelData, class_at, values_at, partners_at, IsLive, IsTop}
use Rattle.object_tables.proofs.DepthLemmas.{depth-top, depth-join}
use Rattle.model_assembly.specs.declared.form.Form.{Form}
use Rattle.model_assembly.specs.declared.form.Form.TheVariants as forms
use Rattle.model_assembly.specs.Attributes.{Attrs}
use Rattle.xmi_profile.specs.Canon.{typed_name, top_numbers}
use Rattle.model_assembly.specs.Elements.{Item, is_object}
use Rattle.model_assembly.specs.Forms.{form_of}
use Rattle.model_assembly.specs.Profile.{prop_name, object_props}
use Rattle.model_assembly.specs.Source.{item_class}
use Rattle.xmi_profile.specs.WrittenOrder.{parts_by, parts_at, parts_of, order_of, written_order}
use Rattle.xmi_profile.specs.WrittenTree.{object_attrs}
use Rattle.model_assembly.proofs.assembling.ListLaws.{contains_tail}
use Rattle.mof_metamodel.proofs.Facts.{contains_first}
use Rattle.xmi_profile.proofs.written.Items.{flat_map-flat_map, value_row, value_rows, rows_by, prop_rows, object_row, object_rows, root_row}
use Rattle.xmi_profile.proofs.written.Ordering.{once_behind, once_first, not_inside, part_of, live_part}

-- ---- lists

pub same_each : {X Y : Type 0} (f g : X → List Y) (xs : List X) → ((x : X) → Contains xs x → f x ≡ g x) → flat_map f xs ≡ flat_map g xs
same_each f g [] h = refl
same_each f g (x ∷ xs) h = ap₂ (λ a b. a ++ b) (h x (contains_first x xs)) (same_each f g xs (λ y c. h y (contains_tail x y xs c)))

pub none_each : {X Y : Type 0} (f : X → List Y) (xs : List X) → ((x : X) → Contains xs x → f x ≡ []) → flat_map f xs ≡ []
none_each f [] h = refl
none_each f (x ∷ xs) h = ap₂ (λ a b. a ++ b) (h x (contains_first x xs)) (none_each f xs (λ y c. h y (contains_tail x y xs c)))

-- where one number alone gives something
pub one_each : {Y : Type 0} (f : ℕ → List Y) (xs : List ℕ) (a : ℕ) → IsOnce xs → Contains xs a → ((x : ℕ) → Contains xs x → x ≢ a → f x ≡ []) → flat_map f xs ≡ f a
one_each f [] a once (i, l, e) h = absurd (omega (arith, l))
one_each f (x ∷ xs) a once (zero, l, e) h =
    ap (λ (ys : List _). f x ++ ys) (none_each f xs (λ y c. h y (contains_tail x y xs c) (λ same. once_first x y xs once c (e ∙ sym same))))
    ∙ append-nil (f x) ∙ ap f e
one_each f (x ∷ xs) a once (suc i, l, e) h =
    let there : Contains xs a = (i, omega (arith, l), e) in
    ap₂ (λ s t. s ++ t) (h x (contains_first x xs) (once_first x a xs once there)) (one_each f xs a (once_behind x xs once) there (λ y c. h y (contains_tail x y xs c)))

pub filter_map-flat_map : {X Y Z : Type 0} (h : Y → Option Z) (f : X → List Y) (xs : List X) → filter_map h (flat_map f xs) ≡ flat_map (λ x. filter_map h (f x)) xs
filter_map-flat_map h f [] = refl
filter_map-flat_map h f (x ∷ xs) = filter_map-append h (f x) (flat_map f xs) ∙ ap (λ ys. filter_map h (f x) ++ ys) (filter_map-flat_map h f xs)

pub filter_map-map : {X Y Z : Type 0} (h : Y → Option Z) (f : X → Y) (xs : List X) → filter_map h (map f xs) ≡ filter_map (λ x. h (f x)) xs
filter_map-map h f [] = refl
filter_map-map h f (x ∷ xs) = ap (cons_option (h (f x))) (filter_map-map h f xs)

pub filter_map_same : {X Z : Type 0} (g h : X → Option Z) (xs : List X) → ((x : X) → g x ≡ h x) → filter_map g xs ≡ filter_map h xs
filter_map_same g h [] e = refl
filter_map_same g h (x ∷ xs) e = ap₂ (λ a b. cons_option a b) (e x) (filter_map_same g h xs e)

pub filter_map_none : {X Z : Type 0} (h : X → Option Z) (xs : List X) → ((x : X) → h x ≡ None) → filter_map h xs ≡ []
filter_map_none h [] e = refl
filter_map_none h (x ∷ xs) e = ap (λ a. cons_option a (filter_map h xs)) (e x) ∙ filter_map_none h xs e

pub filter_map_none_in : {X Z : Type 0} (h : X → Option Z) (xs : List X) → ((x : X) → Contains xs x → h x ≡ None) → filter_map h xs ≡ []
filter_map_none_in h [] e = refl
filter_map_none_in h (x ∷ xs) e = ap (λ a. cons_option a (filter_map h xs)) (e x (contains_first x xs)) ∙ filter_map_none_in h xs (λ y c. e y (contains_tail x y xs c))

cons_first : {Z : Type 0} (o : Option Z) (zs : List Z) → cons_option o [] ++ zs ≡ cons_option o zs
cons_first None zs = refl
cons_first (Some z) zs = refl

flat_map-option : {X Z : Type 0} (h : X → Option Z) (xs : List X) → flat_map (λ x. cons_option (h x) []) xs ≡ filter_map h xs
flat_map-option h [] = refl
flat_map-option h (x ∷ xs) = cons_first (h x) (flat_map (λ y. cons_option (h y) []) xs) ∙ ap (cons_option (h x)) (flat_map-option h xs)

module _ (m : ModelData) (k : Kept m) where
  -- objects nest no more levels deep below this one
  pub Fits : ℕ → ℕ → Type 0
  Fits zero o = ⊥
  Fits (suc levels) o = (b : ℕ) → Contains (parts_of m o) b → Fits levels b

  fits_by : ((o d : ℕ) → IsLive m o → IsDepth m o d → d ≤ MAX_DEPTH) → (levels o d : ℕ) → IsLive m o → IsDepth m o d → d + levels ≡ suc MAX_DEPTH → Fits levels o
  unfolding Fits
  fits_by shallow zero o d live depth e = let l = shallow o d live depth in absurd (omega (arith, l, e))
  fits_by shallow (suc levels) o d live depth e = λ b c.
      let here = part_of m k o b c in
      fits_by shallow levels b (1 + d) (live_part m k b o here) (depth-join m b (o ∷ []) o 1 d (here, refl) refl depth) (omega (arith, e))

  pub tops_fit : ((o d : ℕ) → IsLive m o → IsDepth m o d → d ≤ MAX_DEPTH) → (o : ℕ) → IsLive m o → IsTop m o → Fits MAX_DEPTH o
  tops_fit shallow o live top = fits_by shallow MAX_DEPTH o 1 live (depth-top m o top) (omega arith)

  module _ (image : ℕ → ℕ) where
    abbrev rows : ℕ → List ℕ → ℕ → Option (ℕ × ℕ) → List Item
    rows levels element o within = object_rows m k image levels element o within

    -- ---- the objects of elements

    -- what an object's element says of the object
    abbrev pub seen : Item → Option ℕ × Attrs
    seen item = (item_class item, item.attrs)

    abbrev pub seen_objects : List Item → List (Option ℕ × Attrs)
    seen_objects xs = map seen (filter is_object xs)

    abbrev pub seen_of : ℕ → Option ℕ × Attrs
    seen_of o = (class_at m o, object_attrs m o)

    seen_both : (xs ys : List Item) → seen_objects (xs ++ ys) ≡ seen_objects xs ++ seen_objects ys
    seen_both xs ys = ap (map seen) (filter-append is_object xs ys) ∙ map-append seen (filter is_object xs) (filter is_object ys)

    seen_each : {X : Type 0} (f : X → List Item) (g : X → List ℕ) (xs : List X) → ((x : X) → seen_objects (f x) ≡ map seen_of (g x)) → seen_objects (flat_map f xs) ≡ map seen_of (flat_map g xs)
    seen_each f g [] h = refl
    seen_each f g (x ∷ xs) h =
        seen_both (f x) (flat_map f xs) ∙ ap₂ (λ a b. a ++ b) (h x) (seen_each f g xs h) ∙ sym (map-append seen_of (g x) (flat_map g xs))

    seen_values : (o p : ℕ) (vs : List Value) → seen_objects (value_rows m k image o p vs) ≡ []
    seen_values o p [] = refl
    seen_values o p (v ∷ vs) = seen_values o p vs

    seen_rows : (levels : ℕ) (element : List ℕ) (o : ℕ) (within : Option (ℕ × ℕ)) → seen_objects (rows levels element o within) ≡ map seen_of (order_of m levels o)
    seen_rows zero element o within = refl
    seen_rows (suc levels) element o within =
        ap (λ xs. seen_of o ∷ xs)
        (seen_each (prop_rows m k image (rows levels) o) (λ p. flat_map (order_of m levels) (parts_at m o p)) (object_props m o) (λ p. by (seen_rows levels) p (form_of m.meta p))
        ∙ ap (map seen_of) (sym (flat_map-flat_map (order_of m levels) (parts_at m o) (object_props m o))))
      where
        by : ((element : List ℕ) (b : ℕ) (within : Option (ℕ × ℕ)) → seen_objects (rows levels element b within) ≡ map seen_of (order_of m levels b))
            → (p : ℕ) (f : Form) → seen_objects (rows_by m k image (rows levels) o p f) ≡ map seen_of (flat_map (order_of m levels) (parts_by m o p f))
        by further p forms.Attribute = refl
        by further p forms.Identifiers = refl
        by further p forms.Nesting = refl
        by further p forms.Elements = seen_values o p (values_at m o p)
        by further p forms.Parts =
            seen_each (λ b. rows levels (prop_name m.meta p) b (Some (image o, p))) (order_of m levels) (partners_at m o p) (λ b. further (prop_name m.meta p) b (Some (image o, p)))

    abbrev pub tree_items : List Item
    tree_items = root_row m k image ∷ flat_map (λ o. rows MAX_DEPTH (typed_name m o) o None) (top_numbers m)

    pub seen_tree : seen_objects tree_items ≡ map seen_of (written_order m)
    seen_tree = seen_each (λ o. rows MAX_DEPTH (typed_name m o) o None) (order_of m MAX_DEPTH) (top_numbers m) (λ o. seen_rows MAX_DEPTH (typed_name m o) o None)

    -- ---- what is chosen of one object

    -- of an object's element it is told by its container; elements in other objects than this one give nothing
    pub record IsKeyed {T : Type 0} (a : ℕ) (choose : Item → Option T) (told : Option (ℕ × ℕ) → ℕ → Option T) : Type 0 where
      pub object : (levels : ℕ) (element : List ℕ) (o : ℕ) (within : Option (ℕ × ℕ)) → choose (object_row m k image levels element o within) ≡ told within o
      pub value : (o q : ℕ) (v : Value) → IsLive m o → o ≢ a → choose (value_row m k image o q v) ≡ None
      pub part : (o q b : ℕ) → IsLive m o → o ≢ a → told (Some (image o, q)) b ≡ None
      pub top : (o : ℕ) → told None o ≡ None
      pub root : choose (root_row m k image) ≡ None

    module _ (T : Type 0) (acyclic : IsAcyclic m) (a : ℕ) (choose : Item → Option T) (told : Option (ℕ × ℕ) → ℕ → Option T) (key : IsKeyed a choose told) where
      -- what is chosen of the object itself
      abbrev pub own_by : ℕ → Form → List T
      own_by q forms.Elements = filter_map choose (value_rows m k image a q (values_at m a q))
      own_by q forms.Parts = filter_map (told (Some (image a, q))) (partners_at m a q)
      own_by q forms.Attribute = []
      own_by q forms.Identifiers = []
      own_by q forms.Nesting = []

      abbrev pub own_at : ℕ → List T
      own_at q = own_by q (form_of m.meta q)

      abbrev pub own : List T
      own = flat_map own_at (object_props m a)

      abbrev of_object : ℕ → List T
      of_object o = cond (o == a) own []

      of_itself : of_object a ≡ own
      of_itself = cond-true (a == a) own [] (eq-eqb a a refl)

      of_other : (o : ℕ) → o ≢ a → of_object o ≡ []
      of_other o ne = cond-false (o == a) own [] (ne_eqb o a ne)

      abbrev chosen : ℕ → List ℕ → ℕ → Option (ℕ × ℕ) → List T
      chosen levels element o within = filter_map choose (rows levels element o within)

      abbrev Chosen : ℕ → Type 0
      Chosen levels = (element : List ℕ) (o : ℕ) (within : Option (ℕ × ℕ)) → IsLive m o → Fits levels o
          → chosen levels element o within ≡ cons_option (told within o) (flat_map of_object (order_of m levels o))

      -- in an object
      abbrev inside : ℕ → ℕ → List T
      inside levels o = filter_map choose (flat_map (prop_rows m k image (rows levels) o) (object_props m o))

      listed_part : (o p b : ℕ) → Contains (object_props m o) p → Contains (parts_at m o p) b → Contains (parts_of m o) b
      listed_part o p b cp cb = to_flat_map (parts_at m o) (object_props m o) p b cp cb

      in_other : (levels o : ℕ) → Chosen levels → IsLive m o → ((b : ℕ) → Contains (parts_of m o) b → Fits levels b) → o ≢ a
          → inside levels o ≡ flat_map of_object (flat_map (order_of m levels) (parts_of m o))
      in_other levels o further live fits ne =
          filter_map-flat_map choose (prop_rows m k image (rows levels) o) (object_props m o)
          ∙ same_each (λ p. filter_map choose (prop_rows m k image (rows levels) o p)) (λ p. flat_map of_object (flat_map (order_of m levels) (parts_at m o p))) (object_props m o)
          (λ p c. by p (form_of m.meta p) (λ b h. listed_part o p b c h))
          ∙ sym (ap (flat_map of_object) (flat_map-flat_map (order_of m levels) (parts_at m o) (object_props m o))
          ∙ flat_map-flat_map of_object (λ p. flat_map (order_of m levels) (parts_at m o p)) (object_props m o))
        where
          by : (p : ℕ) (f : Form) → ((b : ℕ) → Contains (parts_by m o p f) b → Contains (parts_of m o) b)
              → filter_map choose (rows_by m k image (rows levels) o p f) ≡ flat_map of_object (flat_map (order_of m levels) (parts_by m o p f))
          by p forms.Attribute h = refl
          by p forms.Identifiers h = refl
          by p forms.Nesting h = refl
          by p forms.Elements h =
              filter_map-map choose (value_row m k image o p) (values_at m o p) ∙ filter_map_none (λ v. choose (value_row m k image o p v)) (values_at m o p) (λ v. key.value o p v live ne)
          by p forms.Parts h =
              filter_map-flat_map choose (λ b. rows levels (prop_name m.meta p) b (Some (image o, p))) (partners_at m o p)
              ∙ same_each (λ b. chosen levels (prop_name m.meta p) b (Some (image o, p))) (λ b. flat_map of_object (order_of m levels b)) (partners_at m o p)
              (λ b c.
              further (prop_name m.meta p) b (Some (image o, p)) (live_part m k b o (part_of m k o b (h b c))) (fits b (h b c))
              ∙ ap (λ t. cons_option t (flat_map of_object (order_of m levels b))) (key.part o p b live ne))
              ∙ sym (flat_map-flat_map of_object (order_of m levels) (partners_at m o p))

      none_below : (levels : ℕ) → flat_map of_object (flat_map (order_of m levels) (parts_of m a)) ≡ []
      none_below levels =
          none_each of_object (flat_map (order_of m levels) (parts_of m a))
          (λ x c. of_other x (λ same. not_inside m k acyclic levels a (subst (λ (y : ℕ). Contains (flat_map (order_of m levels) (parts_of m a)) y) same c)))

      none_in_part : (levels b : ℕ) → Contains (parts_of m a) b → flat_map of_object (order_of m levels b) ≡ []
      none_in_part levels b h =
          none_each of_object (order_of m levels b)
          (λ x c. of_other x (λ same. not_inside m k acyclic levels a (to_flat_map (order_of m levels) (parts_of m a) b a h (subst (λ (y : ℕ). Contains (order_of m levels b) y) same c))))

      in_itself : (levels : ℕ) → Chosen levels → ((b : ℕ) → Contains (parts_of m a) b → Fits levels b) → inside levels a ≡ own
      in_itself levels further fits =
          filter_map-flat_map choose (prop_rows m k image (rows levels) a) (object_props m a)
          ∙ same_each (λ p. filter_map choose (prop_rows m k image (rows levels) a p)) own_at (object_props m a) (λ p c. by p (form_of m.meta p) (λ b h. listed_part a p b c h))
        where
          by : (p : ℕ) (f : Form) → ((b : ℕ) → Contains (parts_by m a p f) b → Contains (parts_of m a) b)
              → filter_map choose (rows_by m k image (rows levels) a p f) ≡ own_by p f
          by p forms.Attribute h = refl
          by p forms.Identifiers h = refl
          by p forms.Nesting h = refl
          by p forms.Elements h = refl
          by p forms.Parts h =
              filter_map-flat_map choose (λ b. rows levels (prop_name m.meta p) b (Some (image a, p))) (partners_at m a p)
              ∙ same_each (λ b. chosen levels (prop_name m.meta p) b (Some (image a, p))) (λ b. cons_option (told (Some (image a, p)) b) []) (partners_at m a p)
              (λ b c.
              further (prop_name m.meta p) b (Some (image a, p)) (live_part m k b a (part_of m k a b (h b c))) (fits b (h b c))
              ∙ ap (cons_option (told (Some (image a, p)) b)) (none_in_part levels b (h b c)))
              ∙ flat_map-option (told (Some (image a, p))) (partners_at m a p)

      chosen_rows : (levels : ℕ) → Chosen levels
      unfolding Fits
      chosen_rows zero element o within live fits = absurd fits
      chosen_rows (suc levels) element o within live fits =
          ap₂ (λ t xs. cons_option t xs) (key.object levels element o within) (elim (cases_eq o a) [
            | inl same ↦ subst Inside (sym same)
                (in_itself levels (chosen_rows levels) (subst (λ (x : ℕ). (b : ℕ) → Contains (parts_of m x) b → Fits levels b) same fits)
                ∙ sym (ap₂ (λ s t. s ++ t) of_itself (none_below levels) ∙ append-nil own))
            | inr ne ↦ (
                in_other levels o (chosen_rows levels) live fits ne
                ∙ sym (ap (λ s. s ++ flat_map of_object (flat_map (order_of m levels) (parts_of m o))) (of_other o ne))
                )
          ])
        where
          Inside : ℕ → Type 0
          Inside x = inside levels x ≡ of_object x ++ flat_map of_object (flat_map (order_of m levels) (parts_of m x))

      -- of the whole tree
      pub chosen_tree : IsOnce (written_order m) → ((o : ℕ) → Contains (top_numbers m) o → IsLive m o × Fits MAX_DEPTH o) → Contains (written_order m) a → filter_map choose tree_items ≡ own
      chosen_tree once tops there =
          ap (λ t. cons_option t (filter_map choose (flat_map (λ o. rows MAX_DEPTH (typed_name m o) o None) (top_numbers m)))) key.root
          ∙ filter_map-flat_map choose (λ o. rows MAX_DEPTH (typed_name m o) o None) (top_numbers m)
          ∙ same_each (λ o. chosen MAX_DEPTH (typed_name m o) o None) (λ o. flat_map of_object (order_of m MAX_DEPTH o)) (top_numbers m)
          (λ o c. chosen_rows MAX_DEPTH (typed_name m o) o None (tops o c).0 (tops o c).1 ∙ ap (λ t. cons_option t (flat_map of_object (order_of m MAX_DEPTH o))) (key.top o))
          ∙ sym (flat_map-flat_map of_object (order_of m MAX_DEPTH) (top_numbers m))
          ∙ one_each of_object (written_order m) a once there (λ x c ne. of_other x ne)
          ∙ of_itself
