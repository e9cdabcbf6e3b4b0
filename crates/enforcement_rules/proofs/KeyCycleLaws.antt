-- E8: the edges between variables of templates and those in their key values are what the rule asks of, and cycles of the graph are its
-- cycles.
use Rattle.std.proofs.Common.{◌≡◌, ◌≢◌, ◌<◌, ◌+◌, ◌++◌, ◌||◌, ℕ, zero, suc, Bool, true, false, List, [], ◌∷◌, Option, None, Some, refl, sym, ap, ◌∙◌, subst, ⊎_elim, arith, true≢false, length, get_or, drop, append_assoc}
use Rattle.std.specs.Prelude.{Contains, ◌↔◌, IsTrue, MatchOption, not, is_some, nat_eq, slice_get, AllPairs, if◌then◌else◌}
use Rattle.std.proofs.Math.Seq.{drop-length}
use Rattle.std.proofs.lemmas.Bool.{eqb-true, eq-eqb}
use Rattle.std.proofs.lemmas.Option.{same_Some, slice_get-get_or, get_or_from_slice_get}
use Rattle.std.proofs.lemmas.List.{append-nil}
use Rattle.std.proofs.lemmas.List.Elements.{Contains-append_left, Contains-append_right, Contains-append_cases}
use Rattle.mof_metamodel.specs.declared.desc.MetaDesc.{MetaDesc}
use Rattle.mof_metamodel.specs.declared.desc.PropId.{PropId}
use Rattle.mof_metamodel.specs.Metamodels.{opposite_of}
use Rattle.mof_metamodel.specs.Tables.{prop_numbers}
use Rattle.mof_metamodel.proofs.PropLemmas.{to_flat_map, from_flat_map}
use Rattle.ocl_environments.specs.Environments.{meta_at}
use Rattle.call_graph.specs.Graphs.{Graph, neighbours, Leads, IsPath, IsOnCycle}
use Rattle.qv_syntax.specs.declared.program.Program.{Program}
use Rattle.qv_syntax.specs.declared.program.Rel.{Rel}
use Rattle.qv_syntax.specs.declared.program.Key.{Key}
use Rattle.qv_syntax.specs.declared.program.Tmpl.{Tmpl, out-Tmpl}
use Rattle.qv_syntax.specs.declared.program.Item.{Item}
use Rattle.qv_syntax.specs.declared.program.ItemValue.{ItemValue, out-ItemValue}
use Rattle.qv_syntax.specs.declared.program.ItemValue.TheOpen as layers
use Rattle.qv_syntax.specs.Directions.{IsMeant}
use Rattle.qv_syntax.specs.ProgramNumbers.{AreVariablesInRange}
use Rattle.qv_syntax.specs.Keys.{AreOfTwoClasses}
use Rattle.enforcement_rules.specs.declared.standing.Place.{Place}
use Rattle.enforcement_rules.specs.declared.class_key.ClassKey.{ClassKey}
use Rattle.enforcement_rules.specs.Edges.{Edge, BeginWithin, HasEdges}
use Rattle.enforcement_rules.specs.Keys.{IsOpposite, HasVariable, IsInKeyValue, DependsOn, DependsThrough, HasKeyCycle}
use Rattle.enforcement_rules.specs.KeyCycles.{no_number, with_number, is_new, value_variables, new_variables, item_variables, opposite_parent, parent_variable, key_variables, class_variables, template_variables, template_edges, key_edges}
use Rattle.enforcement_rules.specs.KeyTests.{Keys, key_at, key_props, is_made, item_props, IsKeyTable, HaveVariables}
use Rattle.enforcement_rules.specs.NumberSets.{is_among}
use Rattle.enforcement_rules.specs.Standings.{Shown, AreTargetTemplates}
use Rattle.enforcement_rules.specs.TargetParts.{target_meta, target_desc}
use Rattle.enforcement_rules.proofs.EdgeLaws.{edge_from, from_edge}
use Rattle.enforcement_rules.proofs.ItemLaws.{nested_is, is_nested, expression_is, is_expression}
use Rattle.enforcement_rules.proofs.KeyLaws.{same_prop, props_of_key, one_key, made_there, there_made}
use Rattle.enforcement_rules.proofs.ListLaws.{first_in, nothing_in, only_in, and_first, and_second, and_both, or_cases, or_first, or_second, not_true, not_false, false_unless, mapped_in, mapped_from, drop_here}
use Rattle.enforcement_rules.proofs.UnmadeLaws.{among_told, told_among}
use Rattle.enforcement_rules.proofs.VariableLaws.{names_listed, listed_names}

-- ---- the loop over items

module _ (count : ℕ) (asked : ℕ → Bool) (items : List Item) (k : ℕ) (item : Item) (below : k < length items) (is : item ≡ get_or items k item) (taken next : ℕ → Bool)
    (more : (q : ℕ) → next q ≡ with_number taken item.prop.0 q) where
  pub items_on : (out mid whole : List ℕ) → out ++ item_variables count asked taken (drop k items) ≡ whole → mid ≡ out ++ new_variables count asked taken item
      → mid ++ item_variables count asked next (drop (k + 1) items) ≡ whole
  items_on out mid whole kept put =
      let same : next ≡ with_number taken item.prop.0 = λ i q. more q i in
      ap (λ (xs : List ℕ). xs ++ item_variables count asked next (drop (k + 1) items)) put
      ∙ ap (λ (f : ℕ → Bool). (out ++ new_variables count asked taken item) ++ item_variables count asked f (drop (k + 1) items)) same
      ∙ append_assoc out (new_variables count asked taken item) (item_variables count asked (with_number taken item.prop.0) (drop (k + 1) items))
      ∙ ap (λ (xs : List Item). out ++ item_variables count asked taken xs) (sym (drop_here items k item below is)) ∙ kept

  pub taken_on : (q : ℕ) (whole : Bool) → (taken q || is_among (item_props (drop k items)) q) ≡ whole → (next q || is_among (item_props (drop (k + 1) items)) q) ≡ whole
  taken_on q whole kept =
      ap (λ (b : Bool). b || is_among (item_props (drop (k + 1) items)) q) (more q)
      ∙ moved (nat_eq q item.prop.0) (taken q) (is_among (item_props (drop (k + 1) items)) q)
      ∙ ap (λ (xs : List Item). taken q || is_among (item_props xs) q) (sym (drop_here items k item below is)) ∙ kept
    where
      moved : (a b c : Bool) → ((a || b) || c) ≡ (b || (a || c))
      moved true true c = refl
      moved true false c = refl
      moved false true c = refl
      moved false false c = refl

pub items_out : (count : ℕ) (asked taken : ℕ → Bool) (items : List Item) (out whole : List ℕ) → out ++ item_variables count asked taken (drop (length items) items) ≡ whole → out ≡ whole
items_out count asked taken items out whole kept =
    sym (append-nil out) ∙ sym (ap (λ (xs : List Item). out ++ item_variables count asked taken xs) (drop-length items)) ∙ kept

pub taken_out : (taken : ℕ → Bool) (items : List Item) (q : ℕ) (whole : Bool) → (taken q || is_among (item_props (drop (length items) items)) q) ≡ whole → taken q ≡ whole
taken_out taken items q whole kept =
    nothing (taken q) ∙ sym (ap (λ (xs : List Item). taken q || is_among (item_props xs) q) (drop-length items)) ∙ kept
  where
    nothing : (b : Bool) → b ≡ (b || false)
    nothing true = refl
    nothing false = refl

-- ---- the variables of items

module _ (count : ℕ) (asked : ℕ → Bool) where
  -- the item is the first at its property, which is asked for and not taken
  record IsMet (taken : ℕ → Bool) (items : List Item) (item : Item) : Type 0 where
    place : ℕ
    found : slice_get items place ≡ Some item
    wanted : asked item.prop.0 ≡ true
    free : taken item.prop.0 ≡ false
    first : (earlier : ℕ) (other : Item) → earlier < place → slice_get items earlier ≡ Some other → other.prop.0 ≢ item.prop.0

  item_there : (items : List Item) (taken : ℕ → Bool) (w : ℕ) → Contains (item_variables count asked taken items) w
      → (item : Item) × IsMet taken items item × Contains (value_variables count (out-ItemValue item.value)) w
  item_there [] taken w among = absurd (nothing_in w among)
  item_there (i ∷ is) taken w among = ⊎_elim
      (λ (here : Contains (new_variables count asked taken i) w). by (is_new asked taken i.prop.0) refl here)
      (λ (there : Contains (item_variables count asked (with_number taken i.prop.0) is) w).
      let r = item_there is (with_number taken i.prop.0) w there in
      let item = r.0 in
      let m = r.1 in (
        item,
        record {
          place = suc m.place;
          found = m.found;
          wanted = m.wanted;
          free = false_unless (taken item.prop.0) (λ h. true≢false (sym (or_second (nat_eq item.prop.0 i.prop.0) (taken item.prop.0) h) ∙ m.free));
          first = before item m;
        },
        r.2,
      ))
      (Contains-append_cases (new_variables count asked taken i) (item_variables count asked (with_number taken i.prop.0) is) w among)
    where
      by : (b : Bool) → is_new asked taken i.prop.0 ≡ b → Contains (if b then value_variables count (out-ItemValue i.value) else []) w
          → (item : Item) × IsMet taken (i ∷ is) item × Contains (value_variables count (out-ItemValue item.value)) w
      by true new c = (
        i,
        record {
          place = 0;
          found = refl;
          wanted = and_first (asked i.prop.0) (not (taken i.prop.0)) new;
          free = not_true (taken i.prop.0) (and_second (asked i.prop.0) (not (taken i.prop.0)) new);
          first = λ earlier other less. absurd (omega arith);
        },
        c,
      )
      by false new c = absurd (nothing_in w c)

      before : (item : Item) (m : IsMet (with_number taken i.prop.0) is item) (earlier : ℕ) (other : Item) → earlier < suc m.place → slice_get (i ∷ is) earlier ≡ Some other → other.prop.0 ≢ item.prop.0
      before item m zero other less at = λ same.
          let one : i ≡ other = same_Some i other at in
          true≢false (sym (or_first (nat_eq item.prop.0 i.prop.0) (taken item.prop.0) (eq-eqb item.prop.0 i.prop.0 (sym same ∙ ap (λ (x : Item). x.prop.0) (sym one)))) ∙ m.free)
      before item m (suc e) other less at = m.first e other (omega (arith, less)) at

  there_item : (items : List Item) (taken : ℕ → Bool) (item : Item) (w : ℕ) → (m : IsMet taken items item) → Contains (value_variables count (out-ItemValue item.value)) w
      → Contains (item_variables count asked taken items) w
  there_item items taken item w m among = at items taken m.place m.found m.free m.first
    where
      at : (items : List Item) (taken : ℕ → Bool) (place : ℕ) → slice_get items place ≡ Some item → taken item.prop.0 ≡ false
          → ((earlier : ℕ) (other : Item) → earlier < place → slice_get items earlier ≡ Some other → other.prop.0 ≢ item.prop.0)
          → Contains (item_variables count asked taken items) w
      at [] taken place found free first = absurd (cc)
      at (i ∷ is) taken zero found free first =
          let same : i ≡ item = same_Some i item found in
          Contains-append_left (new_variables count asked taken i) (item_variables count asked (with_number taken i.prop.0) is) w
          (subst (λ (x : Item). Contains (new_variables count asked taken x) w) (sym same)
          (subst (λ (b : Bool). Contains (if b then value_variables count (out-ItemValue item.value) else []) w) (sym (and_both (asked item.prop.0) (not (taken item.prop.0)) m.wanted (not_false (taken item.prop.0) free))) among))
      at (i ∷ is) taken (suc place) found free first =
          Contains-append_right (new_variables count asked taken i) (item_variables count asked (with_number taken i.prop.0) is) w
          (at is (with_number taken i.prop.0) place found
          (false_unless (with_number taken i.prop.0 item.prop.0) (λ h. ⊎_elim
          (λ (same : nat_eq item.prop.0 i.prop.0 ≡ true). first 0 i (omega arith) refl (sym (eqb-true item.prop.0 i.prop.0 same)))
          (λ (old : taken item.prop.0 ≡ true). true≢false (sym old ∙ free))
          (or_cases (nat_eq item.prop.0 i.prop.0) (taken item.prop.0) h)))
          (λ earlier other less g. first (suc earlier) other (omega (arith, less)) g))

-- ---- the variables of a value

module _ (rel : Rel) where
  value_there : (value : ItemValue) (w : ℕ) → Contains (value_variables (length rel.vars) (out-ItemValue value)) w → HasVariable rel value w
  value_there value w among = by (out-ItemValue value) refl among
    where
      by : (d : layers.ItemValue-F ItemValue Item Tmpl) → out-ItemValue value ≡ d → Contains (value_variables (length rel.vars) d) w → HasVariable rel value w
      by layers.Null is c = absurd (nothing_in w c)
      by (layers.Expr e) is c = HasVariable.expression e (expression_is value e is) (listed_names rel e w c)
      by (layers.Nested part) is c = HasVariable.nested part (nested_is value part is) (only_in (out-Tmpl part).var w c)

  there_value : (value : ItemValue) (w : ℕ) → HasVariable rel value w → Contains (value_variables (length rel.vars) (out-ItemValue value)) w
  there_value value w (HasVariable.expression e is names) =
      subst (λ (d : layers.ItemValue-F ItemValue Item Tmpl). Contains (value_variables (length rel.vars) d) w) (sym (is_expression value e is)) (names_listed rel e w names)
  there_value value w (HasVariable.nested part is same) =
      subst (λ (d : layers.ItemValue-F ItemValue Item Tmpl). Contains (value_variables (length rel.vars) d) w) (sym (is_nested value part is)) (first_in (out-Tmpl part).var w [] same)

-- ---- the properties of a key

asked_there : (props : List PropId) (n : ℕ) → is_among (prop_numbers props) n ≡ true → (p : PropId) × Contains props p × (p.0 ≡ n)
asked_there props n h = mapped_from (λ (p : PropId). p.0) props n (among_told (prop_numbers props) n h)

there_asked : (props : List PropId) (p : PropId) → Contains props p → is_among (prop_numbers props) p.0 ≡ true
there_asked props p among = told_among (prop_numbers props) p.0 (mapped_in (λ (q : PropId). q.0) props p among)

-- ---- the parent

module _ (desc : MetaDesc) (t : Tmpl) (props : List PropId) where
  abbrev asked : ℕ → Bool
  asked = is_among (prop_numbers props)

  abbrev given : ℕ → Bool
  given = is_among (item_props (out-Tmpl t).items)

  not_given : (p : PropId) → given p.0 ≡ false → (item : Item) → Contains (out-Tmpl t).items item → item.prop ≢ p
  not_given p h item has same =
      true≢false (sym (told_among (item_props (out-Tmpl t).items) p.0
      (subst (λ (q : PropId). Contains (item_props (out-Tmpl t).items) q.0) same (mapped_in (λ (i : Item). i.prop.0) (out-Tmpl t).items item has))) ∙ h)

  given_not : (p : PropId) → ((item : Item) → Contains (out-Tmpl t).items item → item.prop ≢ p) → given p.0 ≡ false
  given_not p none = false_unless (given p.0) (λ h.
      let i = mapped_from (λ (j : Item). j.prop.0) (out-Tmpl t).items p.0 (among_told (item_props (out-Tmpl t).items) p.0 h) in
      none i.0 i.1 (same_prop i.0.prop p i.2))

  parent_there : (rel : Rel) (at : Option Place) (w : ℕ) → Contains (parent_variable desc asked given at) w → (p : PropId) × Contains props p × IsInKeyValue desc rel t at p w
  parent_there rel None w among = absurd (nothing_in w among)
  parent_there rel (Some place) w among = by (opposite_of desc place.prop.0) refl among
    where
      new : (n : ℕ) → opposite_of desc place.prop.0 ≡ Some n → (b : Bool) → is_new asked given n ≡ b → Contains (if b then place.parent ∷ [] else []) w
          → (p : PropId) × Contains props p × IsInKeyValue desc rel t (Some place) p w
      new n at true e c =
          let p = asked_there props n (and_first (asked n) (not (given n)) e) in
          let free : given p.0.0 ≡ false = ap given p.2 ∙ not_true (given n) (and_second (asked n) (not (given n)) e) in
          let o : IsOpposite desc (Some place) p.0 = record { place = place; is = refl; opposite = at ∙ ap (λ (k : ℕ). let x : Option ℕ = Some k in x) (sym p.2) } in
          (p.0, p.1, IsInKeyValue.by_parent (not_given p.0 free) o (only_in place.parent w c))
      new n at false e c = absurd (nothing_in w c)

      by : (o : Option ℕ) → opposite_of desc place.prop.0 ≡ o → Contains (opposite_parent asked given place.parent o) w → (p : PropId) × Contains props p × IsInKeyValue desc rel t (Some place) p w
      by None at c = absurd (nothing_in w c)
      by (Some n) at c = new n at (is_new asked given n) refl c

  there_parent : (at : Option Place) (p : PropId) → Contains props p → ((item : Item) → Contains (out-Tmpl t).items item → item.prop ≢ p) → (o : IsOpposite desc at p)
      → Contains (parent_variable desc asked given at) o.place.parent
  there_parent at p among none o =
      subst (λ (a : Option Place). Contains (parent_variable desc asked given a) o.place.parent) (sym o.is)
      (subst (λ (n : Option ℕ). Contains (opposite_parent asked given o.place.parent n) o.place.parent) (sym o.opposite)
      (subst (λ (b : Bool). Contains (if b then o.place.parent ∷ [] else []) o.place.parent)
      (sym (and_both (asked p.0) (not (given p.0)) (there_asked props p among) (not_false (given p.0) (given_not p none)))) (first_in o.place.parent o.place.parent [] refl)))

  -- ---- both

  abbrev variables : Rel → Option Place → List ℕ
  variables rel at = item_variables (length rel.vars) asked no_number (out-Tmpl t).items ++ parent_variable desc asked given at

  in_key : (rel : Rel) (at : Option Place) (w : ℕ) → Contains (variables rel at) w → (p : PropId) × Contains props p × IsInKeyValue desc rel t at p w
  in_key rel at w among = ⊎_elim
      (λ (left : Contains (item_variables (length rel.vars) asked no_number (out-Tmpl t).items) w).
      let r = item_there (length rel.vars) asked (out-Tmpl t).items no_number w left in
      let m = r.1 in
      let p = asked_there props r.0.prop.0 m.wanted in
      let same : p.0 ≡ r.0.prop = same_prop p.0 r.0.prop p.2 in (
        r.0.prop,
        subst (Contains props) same p.1,
        IsInKeyValue.by_item r.0
            (record { place = m.place; found = m.found; is = refl; first = λ earlier other less g e. m.first earlier other less g (ap (λ (q : PropId). q.0) e) })
            (value_there rel r.0.value w r.2),
      ))
      (λ (right : Contains (parent_variable desc asked given at) w). parent_there rel at w right)
      (Contains-append_cases (item_variables (length rel.vars) asked no_number (out-Tmpl t).items) (parent_variable desc asked given at) w among)

  from_key : (rel : Rel) (at : Option Place) (p : PropId) (w : ℕ) → Contains props p → IsInKeyValue desc rel t at p w → Contains (variables rel at) w
  from_key rel at p w among (IsInKeyValue.by_item item f has) =
      Contains-append_left (item_variables (length rel.vars) asked no_number (out-Tmpl t).items) (parent_variable desc asked given at) w
      (there_item (length rel.vars) asked (out-Tmpl t).items no_number item w (record {
        place = f.place;
        found = f.found;
        wanted = ap (λ (q : PropId). asked q.0) f.is ∙ there_asked props p among;
        free = refl;
        first = λ earlier other less g e. f.first earlier other less g (same_prop other.prop item.prop e ∙ f.is);
      }) (there_value rel item.value w has))
  from_key rel at p w among (IsInKeyValue.by_parent none o is) =
      Contains-append_right (item_variables (length rel.vars) asked no_number (out-Tmpl t).items) (parent_variable desc asked given at) w
      (subst (Contains (parent_variable desc asked given at)) is (there_parent at p among none o))

-- as they are collected
pub key_variables_told : (metas : List MetaDesc) (program : Program) (rel : Rel) (meta : ℕ) (s : Shown) (k : ClassKey) (props : List PropId) → props ≡ key_props program k
    → (set : ℕ → Bool) → ((q : ℕ) → set q ≡ is_among (prop_numbers props) q) → (empty : ℕ → Bool) → ((q : ℕ) → empty q ≡ false)
    → (items : List Item) → items ≡ (out-Tmpl s.0).items → (taken : ℕ → Bool) → ((q : ℕ) → taken q ≡ (empty q || is_among (item_props items) q))
    → (start mid out : List ℕ) → start ≡ [] → mid ≡ start ++ item_variables (length rel.vars) set empty items → out ≡ mid ++ parent_variable (meta_at metas meta) set taken s.1
    → out ≡ key_variables metas program rel meta s k
key_variables_told metas program rel meta s k props props_are set is empty none items items_are taken given start mid out begun put last =
    let count = length rel.vars in
    let d = meta_at metas meta in
    let set_is : set ≡ is_among (prop_numbers props) = λ i q. is q i in
    let empty_is : empty ≡ no_number = λ i q. none q i in
    let taken_is : taken ≡ is_among (item_props items) = λ i q. (given q ∙ ap (λ (b : Bool). b || is_among (item_props items) q) (none q)) i in
    last
    ∙ ap (λ (xs : List ℕ). xs ++ parent_variable d set taken s.1) (put ∙ ap (λ (xs : List ℕ). xs ++ item_variables count set empty items) begun)
    ∙ ap (λ (f : ℕ → Bool). item_variables count set f items ++ parent_variable d set taken s.1) empty_is
    ∙ ap (λ (f : ℕ → Bool). item_variables count set no_number items ++ parent_variable d set f s.1) taken_is
    ∙ ap (λ (f : ℕ → Bool). item_variables count f no_number items ++ parent_variable d f (is_among (item_props items)) s.1) set_is
    ∙ ap (λ (ps : List PropId). item_variables count (is_among (prop_numbers ps)) no_number items ++ parent_variable d (is_among (prop_numbers ps)) (is_among (item_props items)) s.1) props_are
    ∙ ap (λ (xs : List Item). item_variables count (is_among (prop_numbers (key_props program k))) no_number xs
    ++ parent_variable d (is_among (prop_numbers (key_props program k))) (is_among (item_props xs)) s.1) items_are

-- ---- edges

module _ (metas : List MetaDesc) (program : Program) (number : ℕ) (rel : Rel) (meant : IsMeant program number rel) (range : AreVariablesInRange metas program rel)
    (templates : List Shown) (all : AreTargetTemplates program rel templates) (in_range : HaveVariables rel templates)
    (keys : Keys) (table : IsKeyTable metas program keys) (one : AllPairs AreOfTwoClasses program.keys) where
  abbrev existential : ℕ → Bool
  existential = is_among rel.existential

  abbrev edges : List Edge
  edges = key_edges metas program rel (target_meta program) keys existential templates

  pub edges_within : BeginWithin (length rel.vars) edges
  edges_within e among =
      let f = from_flat_map (template_edges metas program rel (target_meta program) keys existential) templates e among in
      let g = from_edge (out-Tmpl f.0.0).var (template_variables metas program rel (target_meta program) keys existential f.0) e f.2 in
      subst (λ (v : ℕ). v < length rel.vars) (sym g.0) (in_range f.0 f.1)

  edge_there : (v w : ℕ) → Contains edges (v, w) → DependsOn metas program rel v w
  edge_there v w among =
      let f = from_flat_map (template_edges metas program rel (target_meta program) keys existential) templates (v, w) among in
      let s = f.0 in
      let g = from_edge (out-Tmpl s.0).var (template_variables metas program rel (target_meta program) keys existential s) (v, w) f.2 in
      made s f.1 (sym g.0) (is_made rel existential s) refl g.1
    where
      keyed : (s : Shown) → Contains templates s → (out-Tmpl s.0).var ≡ v → is_made rel existential s ≡ true → (o : Option ClassKey) → key_at keys (out-Tmpl s.0).class.0 ≡ o
          → Contains (class_variables metas program rel (target_meta program) s o) w → DependsOn metas program rel v w
      keyed s has var is None at c = absurd (nothing_in w c)
      keyed s has var is (Some k) at c =
          let t = table.some (out-Tmpl s.0).class.0 k at in
          let p = in_key (target_desc metas program) s.0 (key_props program k) rel s.1 w c in
          record {
            t = s.0;
            at = s.1;
            made = made_there metas program number rel meant range templates all in_range keys table one s has is;
            var = var;
            key = t.key;
            is = t.is;
            prop = p.0;
            among = subst (λ (ps : List PropId). Contains ps p.0) (props_of_key program k t.key t.found) p.1;
            stands = p.2;
          }

      made : (s : Shown) → Contains templates s → (out-Tmpl s.0).var ≡ v → (b : Bool) → is_made rel existential s ≡ b
          → Contains (if b then class_variables metas program rel (target_meta program) s (key_at keys (out-Tmpl s.0).class.0) else []) w → DependsOn metas program rel v w
      made s has var true is c = keyed s has var is (key_at keys (out-Tmpl s.0).class.0) refl c
      made s has var false is c = absurd (nothing_in w c)

  there_edge : (v w : ℕ) → DependsOn metas program rel v w → Contains edges (v, w)
  there_edge v w d =
      let m = there_made metas program number rel meant range templates all in_range keys table one d.t d.at d.made in
      let s : Shown = (d.t, d.at) in
      let has : Contains templates s = subst (Contains templates) m.1 m.2 in
      let is : is_made rel existential s ≡ true = subst (λ (x : Shown). is_made rel existential x ≡ true) m.1 m.3 in
      to_flat_map (template_edges metas program rel (target_meta program) keys existential) templates s (v, w) has
      (subst (λ (u : ℕ). Contains (template_edges metas program rel (target_meta program) keys existential s) (u, w)) d.var
      (edge_from (out-Tmpl d.t).var (template_variables metas program rel (target_meta program) keys existential s) w
      (subst (λ (b : Bool). Contains (if b then class_variables metas program rel (target_meta program) s (key_at keys (out-Tmpl d.t).class.0) else []) w) (sym is)
      (by (key_at keys (out-Tmpl d.t).class.0) refl))))
    where
      by : (o : Option ClassKey) → key_at keys (out-Tmpl d.t).class.0 ≡ o → Contains (class_variables metas program rel (target_meta program) (d.t, d.at) (key_at keys (out-Tmpl d.t).class.0)) w
      by None at = absurd (table.none (out-Tmpl d.t).class.0 d.key at d.is)
      by (Some k) at =
          let t = table.some (out-Tmpl d.t).class.0 k at in
          let same = one_key program one (out-Tmpl d.t).class d.key t.key d.is t.is in
          subst (λ (o : Option ClassKey). Contains (class_variables metas program rel (target_meta program) (d.t, d.at) o) w) (sym at)
          (from_key (target_desc metas program) d.t (key_props program k) rel d.at d.prop w
          (subst (λ (ps : List PropId). Contains ps d.prop) (ap (λ (x : Key). x.props) same ∙ sym (props_of_key program k t.key t.found)) d.among) d.stands)

  -- ---- cycles

  module _ (g : Graph) (h : HasEdges (length rel.vars) edges g) where
    leads_there : (v w : ℕ) → Leads g v w → DependsOn metas program rel v w
    leads_there v w (k, l, e) =
        edge_there v w (h.only v w (k, l, get_or_from_slice_get (neighbours g v) k (get_or (neighbours g v) k 0) w (slice_get-get_or (neighbours g v) k 0 l) ∙ e))

    there_leads : (v w : ℕ) → DependsOn metas program rel v w → Leads g v w
    there_leads v w d = by (h.there v w (there_edge v w d))
      where
        by : Contains (neighbours g v) w → Leads g v w
        by (k, l, e) = (k, l, get_or_from_slice_get (neighbours g v) k (get_or (neighbours g v) k w) 0 (slice_get-get_or (neighbours g v) k w l) ∙ e)

    path_there : (between : List ℕ) (v w : ℕ) → IsPath g v between w → DependsThrough metas program rel v w
    path_there [] v w leads = DependsThrough.direct v w (leads_there v w leads)
    path_there (u ∷ between) v w (leads, rest) = DependsThrough.more v u w (leads_there v u leads) (path_there between u w rest)

    there_path : (v w : ℕ) → DependsThrough metas program rel v w → (between : List ℕ) × IsPath g v between w
    there_path _ _ (DependsThrough.direct v w d) = ([], there_leads v w d)
    there_path _ _ (DependsThrough.more v u w d rest) = let p = there_path u w rest in (u ∷ p.0, (there_leads v u d, p.1))

    cycle_there : (o : Option ℕ) → MatchOption o ((u : ℕ) → IsOnCycle g u → ⊥) (IsOnCycle g) → is_some o ≡ true → HasKeyCycle metas program rel
    cycle_there None found is = absurd (true≢false (sym is))
    cycle_there (Some u) found is = record { v = u; cycle = path_there found.0 u u found.1 }

    there_cycle : (o : Option ℕ) → MatchOption o ((u : ℕ) → IsOnCycle g u → ⊥) (IsOnCycle g) → HasKeyCycle metas program rel → is_some o ≡ true
    there_cycle None none c = absurd (none c.v (there_path c.v c.v c.cycle))
    there_cycle (Some u) found c = refl

    pub cycle_told : (o : Option ℕ) → MatchOption o ((u : ℕ) → IsOnCycle g u → ⊥) (IsOnCycle g) → (b : Bool) → b ≡ is_some o → IsTrue b ↔ HasKeyCycle metas program rel
    cycle_told o found b is = (λ t. cycle_there o found (sym is ∙ t), λ c. is ∙ there_cycle o found c)

  -- of the set of existential variables
  module _ (m : ℕ) (set : ℕ → Bool) (same : m ≡ target_meta program) (is : (q : ℕ) → set q ≡ existential q) (es : List Edge) (are : es ≡ key_edges metas program rel m keys set templates) where
    are_edges : es ≡ edges
    are_edges =
        let same_set : set ≡ existential = λ i q. is q i in
        are ∙ ap (λ (n : ℕ). key_edges metas program rel n keys set templates) same ∙ ap (λ (f : ℕ → Bool). key_edges metas program rel (target_meta program) keys f templates) same_set

    pub begin_within : BeginWithin (length rel.vars) es
    begin_within = subst (BeginWithin (length rel.vars)) (sym are_edges) edges_within

    pub cycle_told_of : (g : Graph) → HasEdges (length rel.vars) es g → (o : Option ℕ) → MatchOption o ((u : ℕ) → IsOnCycle g u → ⊥) (IsOnCycle g) → (b : Bool) → b ≡ is_some o
        → IsTrue b ↔ HasKeyCycle metas program rel
    cycle_told_of g h o found b told = cycle_told g (subst (λ (xs : List Edge). HasEdges (length rel.vars) xs g) are_edges h) o found b told
