-- E5 and E6: the tests on templates and keys tell what these rules ask.
use Rattle.std.proofs.Common.{◌≡◌, ◌<◌, ◌⊎◌, ◌||◌, ℕ, List, [], Bool, true, false, Option, None, Some, Result, Ok, Err, refl, sym, ap, ◌∙◌, subst, inl, inr, ⊎_elim, true≢false, length, get_or}
use Rattle.std.specs.Prelude.{Contains, ◌↔◌, IsTrue, IfOk, not, is_some, slice_get, AllPairs}
use Rattle.std.specs.List.{list_any}
use Rattle.std.specs.Option.{option_to_list}
use Rattle.std.proofs.lemmas.Bool.{cases_order}
use Rattle.std.proofs.lemmas.Option.{get_or_from_slice_get}
use Rattle.std.proofs.lemmas.List.Elements.{Contains-append_left, Contains-append_right, Contains-append_cases}
use Rattle.mof_metamodel.specs.declared.desc.MetaDesc.{MetaDesc}
use Rattle.mof_metamodel.specs.declared.desc.ClassId.{ClassId}
use Rattle.mof_metamodel.specs.declared.desc.PropId.{PropId}
use Rattle.mof_metamodel.specs.Metamodels.{prop_at}
use Rattle.qv_syntax.specs.declared.program.Program.{Program}
use Rattle.qv_syntax.specs.declared.program.Rel.{Rel}
use Rattle.qv_syntax.specs.declared.program.Key.{Key}
use Rattle.qv_syntax.specs.declared.program.Tmpl.{Tmpl, out-Tmpl}
use Rattle.qv_syntax.specs.declared.program.Item.{Item}
use Rattle.qv_syntax.specs.Directions.{IsMeant}
use Rattle.qv_syntax.specs.ProgramNumbers.{AreVariablesInRange}
use Rattle.qv_syntax.specs.Keys.{AreOfTwoClasses}
use Rattle.ocl_environments.specs.Navigation.{is_single}
use Rattle.enforcement_rules.specs.declared.standing.Place.{Place}
use Rattle.enforcement_rules.specs.declared.class_key.ClassKey.{ClassKey}
use Rattle.enforcement_rules.specs.Keys.{IsKeyOf, IsOpposite, IsGiven, IsKeyed, HasUnkeyedTemplate, HasManyValuedKey}
use Rattle.enforcement_rules.specs.KeyTests.{Keys, key_at, no_key, key_props, is_made, item_props, opposite_number, given_props, is_keyed_by, is_keyed, is_unkeyed, has_unkeyed, is_many_key, is_many, has_many, is_many_prop, IsKeyTable, HaveVariables}
use Rattle.enforcement_rules.specs.NumberSets.{is_among}
use Rattle.enforcement_rules.specs.Standings.{Shown, AreTargetTemplates}
use Rattle.enforcement_rules.specs.TargetParts.{IsMade, target_meta, target_desc}
use Rattle.enforcement_rules.proofs.KnownLaws.{listed_existential, existential_listed}
use Rattle.enforcement_rules.proofs.ListLaws.{within_some, first_in, nothing_in, only_in, and_first, and_second, and_both, or_cases, or_first, or_second, not_true, not_false, false_unless, any_there, any_here, all_each, all_from, mapped_in, mapped_from}
use Rattle.enforcement_rules.proofs.SettledLaws.{template_is, is_template}
use Rattle.enforcement_rules.proofs.UnmadeLaws.{among_told, told_among}

-- ---- what is given

-- a property by its number
pub same_prop : (p q : PropId) → p.0 ≡ q.0 → p ≡ q
same_prop p q is = ap (λ (n : ℕ). let r : PropId = record { 0 = n } in r) is

listed_number : (o : Option ℕ) (n : ℕ) → Contains (option_to_list o) n → o ≡ Some n
listed_number None n among = absurd (nothing_in n among)
listed_number (Some m) n among = ap (λ k. Some k) (only_in m n among)

number_listed : (o : Option ℕ) (n : ℕ) → o ≡ Some n → Contains (option_to_list o) n
number_listed o n is = subst (λ (x : Option ℕ). Contains (option_to_list x) n) (sym is) (first_in n n [] refl)

pub opposite_there : (desc : MetaDesc) (at : Option Place) (p : PropId) → opposite_number desc at ≡ Some p.0 → IsOpposite desc at p
opposite_there desc None p h = absurd (cc)
opposite_there desc (Some place) p h = record { place = place; is = refl; opposite = h }

pub there_opposite : (desc : MetaDesc) (at : Option Place) (p : PropId) → IsOpposite desc at p → opposite_number desc at ≡ Some p.0
there_opposite desc at p o = ap (opposite_number desc) o.is ∙ o.opposite

given_there : (desc : MetaDesc) (s : Shown) (p : PropId) → is_among (given_props desc s) p.0 ≡ true → IsGiven desc s.0 s.1 p
given_there desc s p h = ⊎_elim
    (λ (here : Contains (item_props (out-Tmpl s.0).items) p.0).
    let i = mapped_from (λ (i : Item). i.prop.0) (out-Tmpl s.0).items p.0 here in
    IsGiven.by_item i.0 i.1 (same_prop i.0.prop p i.2))
    (λ (there : Contains (option_to_list (opposite_number desc s.1)) p.0). IsGiven.by_parent (opposite_there desc s.1 p (listed_number (opposite_number desc s.1) p.0 there)))
    (Contains-append_cases (item_props (out-Tmpl s.0).items) (option_to_list (opposite_number desc s.1)) p.0 (among_told (given_props desc s) p.0 h))

there_given : (desc : MetaDesc) (s : Shown) (p : PropId) → IsGiven desc s.0 s.1 p → is_among (given_props desc s) p.0 ≡ true
there_given desc s p (IsGiven.by_item item has is) =
    told_among (given_props desc s) p.0
    (Contains-append_left (item_props (out-Tmpl s.0).items) (option_to_list (opposite_number desc s.1)) p.0
    (subst (λ (q : PropId). Contains (item_props (out-Tmpl s.0).items) q.0) is (mapped_in (λ (i : Item). i.prop.0) (out-Tmpl s.0).items item has)))
there_given desc s p (IsGiven.by_parent o) =
    told_among (given_props desc s) p.0
    (Contains-append_right (item_props (out-Tmpl s.0).items) (option_to_list (opposite_number desc s.1)) p.0 (number_listed (opposite_number desc s.1) p.0 (there_opposite desc s.1 p o)))

pub props_of_key : (program : Program) (k : ClassKey) (key : Key) → slice_get program.keys k.key ≡ Some key → key_props program k ≡ key.props
props_of_key program k key found = ap (λ (x : Key). x.props) (get_or_from_slice_get program.keys k.key key no_key found)

-- two keys of one class are one
pub one_key : (program : Program) → AllPairs AreOfTwoClasses program.keys → (class : ClassId) (a b : Key) → IsKeyOf program class a → IsKeyOf program class b → a ≡ b
one_key program pairs class a b first second =
    let i = first.among in
    let j = second.among in
    by i.0 i.1 i.2 j.0 j.1 j.2
  where
    apart : (x y : Key) → IsKeyOf program class x → IsKeyOf program class y → ¬ AreOfTwoClasses x y
    apart x y p q two = two (p.meta ∙ sym q.meta) (p.of ∙ sym q.of)

    by : (i : ℕ) → i < length program.keys → get_or program.keys i a ≡ a → (j : ℕ) → j < length program.keys → get_or program.keys j b ≡ b → a ≡ b
    by i within here j inside there = ⊎_elim
        (λ (same : i ≡ j). sym here ∙ as_one same)
        (λ (other : (i < j) ⊎ (j < i)). ⊎_elim
        (λ (less : i < j). absurd (apart a b first second
        (subst (λ (y : Key). AreOfTwoClasses a y) (read j b a inside ∙ there) (subst (λ (x : Key). AreOfTwoClasses x (get_or program.keys j a)) here (pairs i j a less inside)))))
        (λ (more : j < i). absurd (apart b a second first
        (subst (λ (y : Key). AreOfTwoClasses b y) (read i a b within ∙ here) (subst (λ (x : Key). AreOfTwoClasses x (get_or program.keys i b)) there (pairs j i b more within)))))
        other)
        (cases_order i j)
      where
        read : (k : ℕ) (x d : Key) → k < length program.keys → get_or program.keys k d ≡ get_or program.keys k x
        read k x d below =
            let found = within_some program.keys k below in
            get_or_from_slice_get program.keys k found.0 d found.1 ∙ sym (get_or_from_slice_get program.keys k found.0 x found.1)

        as_one : i ≡ j → get_or program.keys i a ≡ b
        as_one same = read i b a within ∙ ap (λ (k : ℕ). get_or program.keys k b) same ∙ there

module _ (metas : List MetaDesc) (program : Program) (number : ℕ) (rel : Rel) (meant : IsMeant program number rel) (range : AreVariablesInRange metas program rel)
    (templates : List Shown) (all : AreTargetTemplates program rel templates) (in_range : HaveVariables rel templates)
    (keys : Keys) (table : IsKeyTable metas program keys) (one : AllPairs AreOfTwoClasses program.keys) where
  abbrev desc : MetaDesc
  desc = target_desc metas program

  abbrev existential : ℕ → Bool
  existential = is_among rel.existential

  -- ---- templates whose objects the relation makes

  pub made_there : (s : Shown) → Contains templates s → is_made rel existential s ≡ true → IsMade program rel s.0 s.1
  made_there s among h = record {
    is = template_is program rel templates all s among;
    existential = listed_existential metas program number rel meant range (out-Tmpl s.0).var (among_told rel.existential (out-Tmpl s.0).var (and_first (existential (out-Tmpl s.0).var) (rel.top || is_some s.1) h));
    own = λ root. top_or root (or_cases rel.top (is_some s.1) (and_second (existential (out-Tmpl s.0).var) (rel.top || is_some s.1) h));
  }
    where
      top_or : s.1 ≡ None → (rel.top ≡ true) ⊎ (is_some s.1 ≡ true) → rel.top ≡ true
      top_or root (inl top) = top
      top_or root (inr some) = absurd (true≢false (sym some ∙ ap (λ (o : Option Place). is_some o) root))

  some_or_none : (o : Option Place) → (o ≡ None → rel.top ≡ true) → (rel.top || is_some o) ≡ true
  some_or_none None own = or_first rel.top false (own refl)
  some_or_none (Some place) own = or_second rel.top true refl

  pub there_made : (t : Tmpl) (at : Option Place) → IsMade program rel t at → (s : Shown) × (◌≡◌ {A = Shown} s (t, at)) × Contains templates s × (is_made rel existential s ≡ true)
  there_made t at m =
      let s : Shown = (t, at) in
      let among = is_template program rel templates all t at m.is in (
        s,
        refl,
        among,
        and_both (existential (out-Tmpl t).var) (rel.top || is_some at)
            (told_among rel.existential (out-Tmpl t).var (existential_listed metas program number rel meant range (out-Tmpl t).var (in_range s among) m.existential))
            (some_or_none at m.own),
      )

  -- ---- E5

  keyed_there : (s : Shown) → is_keyed metas program (target_meta program) keys s ≡ true → IsKeyed metas program s.0 s.1
  keyed_there s h = by (key_at keys (out-Tmpl s.0).class.0) refl h
    where
      by : (o : Option ClassKey) → key_at keys (out-Tmpl s.0).class.0 ≡ o → is_keyed_by metas program (target_meta program) s o ≡ true → IsKeyed metas program s.0 s.1
      by None at g = absurd (cc)
      by (Some k) at g =
          let t = table.some (out-Tmpl s.0).class.0 k at in
          record {
            key = t.key;
            is = t.is;
            given = λ p among. given_there desc s p (all_each (λ (q : PropId). is_among (given_props desc s) q.0) (key_props program k) g p (subst (λ (ps : List PropId). Contains ps p) (sym (props_of_key program k t.key t.found)) among));
          }

  there_keyed : (s : Shown) → IsKeyed metas program s.0 s.1 → is_keyed metas program (target_meta program) keys s ≡ true
  there_keyed s i = by (key_at keys (out-Tmpl s.0).class.0) refl
    where
      by : (o : Option ClassKey) → key_at keys (out-Tmpl s.0).class.0 ≡ o → is_keyed_by metas program (target_meta program) s (key_at keys (out-Tmpl s.0).class.0) ≡ true
      by None at = absurd (table.none (out-Tmpl s.0).class.0 i.key at i.is)
      by (Some k) at =
          let t = table.some (out-Tmpl s.0).class.0 k at in
          let same = one_key program one (out-Tmpl s.0).class i.key t.key i.is t.is in
          ap (is_keyed_by metas program (target_meta program) s) at
          ∙ all_from (λ (q : PropId). is_among (given_props desc s) q.0) (key_props program k)
          (λ p among. there_given desc s p (i.given p (subst (λ (ps : List PropId). Contains ps p) (props_of_key program k t.key t.found ∙ ap (λ (x : Key). x.props) (sym same)) among)))

  unkeyed_there : has_unkeyed metas program rel (target_meta program) keys existential templates ≡ true → HasUnkeyedTemplate metas program rel
  unkeyed_there h =
      let found = any_there (is_unkeyed metas program rel (target_meta program) keys existential) templates h in
      let s = found.0 in
      record {
        t = s.0;
        at = s.1;
        made = made_there s found.1 (and_first (is_made rel existential s) (not (is_keyed metas program (target_meta program) keys s)) found.2);
        unkeyed = λ i. true≢false (sym (there_keyed s i) ∙ not_true (is_keyed metas program (target_meta program) keys s)
            (and_second (is_made rel existential s) (not (is_keyed metas program (target_meta program) keys s)) found.2));
      }

  there_unkeyed : HasUnkeyedTemplate metas program rel → has_unkeyed metas program rel (target_meta program) keys existential templates ≡ true
  there_unkeyed u =
      let m = there_made u.t u.at u.made in
      let s : Shown = (u.t, u.at) in
      any_here (is_unkeyed metas program rel (target_meta program) keys existential) templates s (subst (Contains templates) m.1 m.2)
      (and_both (is_made rel existential s) (not (is_keyed metas program (target_meta program) keys s)) (subst (λ (x : Shown). is_made rel existential x ≡ true) m.1 m.3)
      (not_false (is_keyed metas program (target_meta program) keys s) (false_unless (is_keyed metas program (target_meta program) keys s) (λ h. u.unkeyed (keyed_there s h)))))

  pub unkeyed_told : (b : Bool) → b ≡ has_unkeyed metas program rel (target_meta program) keys existential templates → IsTrue b ↔ HasUnkeyedTemplate metas program rel
  unkeyed_told b is = (λ h. unkeyed_there (sym is ∙ h), λ u. is ∙ there_unkeyed u)

  -- of the set of existential variables
  pub unkeyed_told_of : {E : Type 0} (m : ℕ) (set : ℕ → Bool) → m ≡ target_meta program → ((q : ℕ) → set q ≡ existential q) → (r : Result Bool E)
      → IfOk r (λ b. b ≡ has_unkeyed metas program rel m keys set templates) → IfOk r (λ b. IsTrue b ↔ HasUnkeyedTemplate metas program rel)
  unkeyed_told_of m set same is (Ok b) h =
      let same_set : set ≡ existential = λ i q. is q i in
      unkeyed_told b (h ∙ ap (λ (n : ℕ). has_unkeyed metas program rel n keys set templates) same ∙ ap (λ (f : ℕ → Bool). has_unkeyed metas program rel (target_meta program) keys f templates) same_set)
  unkeyed_told_of m set same is (Err e) h = tt

  -- ---- E6

  many_key : (s : Shown) → is_many_key (key_at keys (out-Tmpl s.0).class.0) ≡ true → (key : Key) × IsKeyOf program (out-Tmpl s.0).class key × (list_any (is_many_prop desc) key.props ≡ true)
  many_key s h = by (key_at keys (out-Tmpl s.0).class.0) refl h
    where
      by : (o : Option ClassKey) → key_at keys (out-Tmpl s.0).class.0 ≡ o → is_many_key o ≡ true → (key : Key) × IsKeyOf program (out-Tmpl s.0).class key × (list_any (is_many_prop desc) key.props ≡ true)
      by None at g = absurd (cc)
      by (Some k) at g = let t = table.some (out-Tmpl s.0).class.0 k at in (t.key, t.is, sym t.many ∙ g)

  key_many : (s : Shown) (key : Key) → IsKeyOf program (out-Tmpl s.0).class key → list_any (is_many_prop desc) key.props ≡ true → is_many_key (key_at keys (out-Tmpl s.0).class.0) ≡ true
  key_many s key is h = by (key_at keys (out-Tmpl s.0).class.0) refl
    where
      by : (o : Option ClassKey) → key_at keys (out-Tmpl s.0).class.0 ≡ o → is_many_key (key_at keys (out-Tmpl s.0).class.0) ≡ true
      by None at = absurd (table.none (out-Tmpl s.0).class.0 key at is)
      by (Some k) at =
          let t = table.some (out-Tmpl s.0).class.0 k at in
          let same = one_key program one (out-Tmpl s.0).class key t.key is t.is in
          ap is_many_key at ∙ t.many ∙ ap (λ (x : Key). list_any (is_many_prop desc) x.props) (sym same) ∙ h

  many_there : has_many rel keys existential templates ≡ true → HasManyValuedKey metas program rel
  many_there h =
      let found = any_there (is_many rel keys existential) templates h in
      let s = found.0 in
      let k = many_key s (and_second (is_made rel existential s) (is_many_key (key_at keys (out-Tmpl s.0).class.0)) found.2) in
      let p = any_there (is_many_prop desc) k.0.props k.2 in
      record {
        t = s.0;
        at = s.1;
        made = made_there s found.1 (and_first (is_made rel existential s) (is_many_key (key_at keys (out-Tmpl s.0).class.0)) found.2);
        key = k.0;
        is = k.1;
        prop = p.0;
        among = p.1;
        many = not_true (is_single (prop_at desc p.0.0).upper) p.2;
      }

  there_many : HasManyValuedKey metas program rel → has_many rel keys existential templates ≡ true
  there_many u =
      let m = there_made u.t u.at u.made in
      let s : Shown = (u.t, u.at) in
      any_here (is_many rel keys existential) templates s (subst (Contains templates) m.1 m.2)
      (and_both (is_made rel existential s) (is_many_key (key_at keys (out-Tmpl s.0).class.0)) (subst (λ (x : Shown). is_made rel existential x ≡ true) m.1 m.3)
      (key_many s u.key u.is (any_here (is_many_prop desc) u.key.props u.prop u.among (not_false (is_single (prop_at desc u.prop.0).upper) u.many))))

  pub many_told_of : (set : ℕ → Bool) → ((q : ℕ) → set q ≡ existential q) → (b : Bool) → b ≡ has_many rel keys set templates → IsTrue b ↔ HasManyValuedKey metas program rel
  many_told_of set is b h =
      let same_set : set ≡ existential = λ i q. is q i in
      let told : b ≡ has_many rel keys existential templates = h ∙ ap (λ (f : ℕ → Bool). has_many rel keys f templates) same_set in
      (λ g. many_there (sym told ∙ g), λ u. told ∙ there_many u)
