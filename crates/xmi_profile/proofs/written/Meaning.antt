-- What the calls of a writer mean as nodes of a tree.
use Rattle.std.proofs.Common.{◌≡◌, ℕ, zero, suc, ◌<◌, Bool, true, false, cond, List, [], ◌∷◌, ◌++◌, length, refl, sym, ◌∙◌, ap, ap₂, arith, inl, inr, append_assoc, append-nil, length-append}
use Rattle.std.specs.Prelude.{◌==◌, codes}
use Rattle.std.specs.List.{flat_map}
use Rattle.std.proofs.lemmas.Bool.{eqb-true, eqb-false, cases_lt}
use Rattle.object_tables.specs.declared.limit.TheConstants.{MAX_DEPTH}
use Rattle.object_tables.specs.declared.value.Value.{Value}
use Rattle.object_tables.specs.Models.{ModelData, values_at, partners_at}
use Rattle.xmi_text.specs.Calls.{Call, Open, Attr, Data, Close, Line, leading, meant_in, meant}
use Rattle.xmi_text.specs.Markup.{joined_runs}
use Rattle.xmi_text.specs.Trees.{Nodes, Ends, Run, Element, Event, Opens, Says, Closes, events_of, events}
use Rattle.xmi_text.specs.Writing.{line_end}
use Rattle.model_assembly.specs.declared.form.Form.{Form}
use Rattle.model_assembly.specs.declared.form.Form.TheVariants as forms
use Rattle.model_assembly.specs.Attributes.{Attrs}
use Rattle.xmi_profile.specs.Canon.{value_text, value_attr, partners_attr, attr_by, attr_calls, value_element, children_by, child_calls, ended, typed_name, depth_over, object_calls, top_calls, top_numbers, foot, canon_calls}
use Rattle.model_assembly.specs.Forms.{form_of}
use Rattle.model_assembly.specs.Profile.{xmi_namespace, xmi_version, xmi_id, xmi_type, xmi_document, prop_name, id_text, object_props}
use Rattle.xmi_profile.specs.WrittenTree.{value_pair, partners_pair, pair_by, pair_at, each_before, text_nodes, value_nodes, nodes_by, child_nodes, unless_none, lined, object_nodes, top_nodes, written_tree}

-- ---- nodes

-- the calls mean these nodes before others, wherever an element is open
record Means (calls : List Call) (f : Nodes → Nodes) : Type 0 where
  said : (name : List ℕ) (names : List (List ℕ)) (rest : List Call) (more : Nodes) (es : List Event)
      → joined_runs (meant_in (name ∷ names) rest) ≡ events_of more ++ es
      → joined_runs (meant_in (name ∷ names) (calls ++ rest)) ≡ events_of (f more) ++ es
  none : length calls ≡ 0 → (more : Nodes) → f more ≡ more
  some : 0 < length calls → (more others : Nodes) → unless_none (f more) others ≡ others
  apart : (rest : List Call) → leading rest ≡ [] → leading (calls ++ rest) ≡ []

means_none : Means [] (λ more. more)
means_none = record { said = λ name names rest more es e. e; none = λ l more. refl; some = λ l more others. absurd (omega (arith, l)); apart = λ rest e. e }

means_both : (a b : List Call) (f g : Nodes → Nodes) → Means a f → Means b g → Means (a ++ b) (λ more. f (g more))
means_both a b f g x y = record {
  said = λ name names rest more es e.
      ap (λ calls. joined_runs (meant_in (name ∷ names) calls)) (append_assoc a b rest) ∙ x.said name names (b ++ rest) (g more) es (y.said name names rest more es e);
  none = λ l more. x.none (omega (arith, l, length-append a b)) (g more) ∙ y.none (omega (arith, l, length-append a b)) more;
  some = λ l more others. elim (cases_lt 0 (length a)) [
    | inl here ↦ x.some here (g more) others
    | inr past ↦ (
        ap (λ n. unless_none n others) (x.none (omega (arith, past)) (g more)) ∙ y.some (omega (arith, l, past, length-append a b)) more others
        )
  ];
  apart = λ rest e. ap leading (append_assoc a b rest) ∙ x.apart (b ++ rest) (y.apart rest e);
}

means_each : {X : Type 0} (c : X → List Call) (f : X → Nodes → Nodes) (xs : List X) → ((x : X) → Means (c x) (f x)) → Means (flat_map c xs) (each_before f xs)
means_each c f [] h = means_none
means_each c f (x ∷ xs) h = means_both (c x) (flat_map c xs) (f x) (each_before f xs) (h x) (means_each c f xs h)

means_value : (depth : ℕ) (name text : List ℕ) → Means (Line depth ∷ Open name ∷ Data text ∷ Close ∷ []) (λ more. Run (line_end depth) (Element name [] (text_nodes text) more))
means_value depth name [] = record {
  said = λ n ns rest more es e. ap (λ x. Says (line_end depth) ∷ Opens name [] ∷ Closes ∷ x) e;
  none = λ l more. absurd (omega (arith, l));
  some = λ l more others. refl;
  apart = λ rest e. refl;
}
means_value depth name (c ∷ cs) = record {
  said = λ n ns rest more es e. ap (λ x. Says (line_end depth) ∷ Opens name [] ∷ Says (c ∷ cs) ∷ Closes ∷ x) e;
  none = λ l more. absurd (omega (arith, l));
  some = λ l more others. refl;
  apart = λ rest e. refl;
}

-- ---- attributes

-- the calls mean these attributes of the element that was begun
record Leads (calls : List Call) (attrs : Attrs) : Type 0 where
  leads : (rest : List Call) → leading (calls ++ rest) ≡ attrs ++ leading rest
  silent : (names : List (List ℕ)) (rest : List Call) → meant_in names (calls ++ rest) ≡ meant_in names rest

leads_none : Leads [] []
leads_none = record { leads = λ rest. refl; silent = λ names rest. refl }

leads_one : (name value : List ℕ) → Leads (Attr name value ∷ []) ((name, value) ∷ [])
leads_one name value = record { leads = λ rest. refl; silent = λ names rest. refl }

leads_both : (a b : List Call) (p q : Attrs) → Leads a p → Leads b q → Leads (a ++ b) (p ++ q)
leads_both a b p q x y = record {
  leads = λ rest. ap leading (append_assoc a b rest) ∙ x.leads (b ++ rest) ∙ ap (λ t. p ++ t) (y.leads rest) ∙ sym (append_assoc p q (leading rest));
  silent = λ names rest. ap (meant_in names) (append_assoc a b rest) ∙ x.silent names (b ++ rest) ∙ y.silent names rest;
}

leads_each : {X : Type 0} (c : X → List Call) (p : X → Attrs) (xs : List X) → ((x : X) → Leads (c x) (p x)) → Leads (flat_map c xs) (flat_map p xs)
leads_each c p [] h = leads_none
leads_each c p (x ∷ xs) h = leads_both (c x) (flat_map c xs) (p x) (flat_map p xs) (h x) (leads_each c p xs h)

-- ---- an element with children

-- the children and the end of their element
ended_said : (d : ℕ) (element name : List ℕ) (names : List (List ℕ)) (calls : List Call) (f : Nodes → Nodes) (rest : List Call) (es : List Event) → Means calls f
    → joined_runs (meant_in (name ∷ names) rest) ≡ es
    → joined_runs (meant_in (element ∷ name ∷ names) (ended d calls ++ rest)) ≡ events_of (lined d f) ++ Closes ∷ es
ended_said d element name names calls f rest es x e = by (length calls == 0) refl
  where
    by : (t : Bool) → (length calls == 0) ≡ t
        → joined_runs (meant_in (element ∷ name ∷ names) (cond t (Close ∷ []) (calls ++ (Line d ∷ Close ∷ [])) ++ rest)) ≡ events_of (lined d f) ++ Closes ∷ es
    by true h =
        ap (λ y. Closes ∷ y) e
        ∙ sym (ap (λ n. events_of (unless_none n (f (Run (line_end d) Ends))) ++ Closes ∷ es) (x.none (eqb-true (length calls) 0 h) Ends))
    by false h =
        let filled : 0 < length calls = omega (arith, eqb-false (length calls) 0 h) in
        ap (λ y. joined_runs (meant_in (element ∷ name ∷ names) y)) (append_assoc calls (Line d ∷ Close ∷ []) rest)
        ∙ x.said element (name ∷ names) (Line d ∷ Close ∷ rest) (Run (line_end d) Ends) (Closes ∷ es) (ap (λ y. Says (line_end d) ∷ Closes ∷ y) e)
        ∙ ap (λ n. events_of n ++ Closes ∷ es) (sym (x.some filled Ends (f (Run (line_end d) Ends))))

ended_apart : (d : ℕ) (calls : List Call) (f : Nodes → Nodes) (rest : List Call) → Means calls f → leading (ended d calls ++ rest) ≡ []
ended_apart d calls f rest x = by (length calls == 0)
  where
    by : (t : Bool) → leading (cond t (Close ∷ []) (calls ++ (Line d ∷ Close ∷ [])) ++ rest) ≡ []
    by true = refl
    by false = ap leading (append_assoc calls (Line d ∷ Close ∷ []) rest) ∙ x.apart (Line d ∷ Close ∷ rest) refl

-- the attributes of a start tag that is ended
tag_leads : (d : ℕ) (attrs : List Call) (p : Attrs) (calls : List Call) (f : Nodes → Nodes) (rest : List Call) → Leads attrs p → Means calls f
    → leading ((attrs ++ ended d calls) ++ rest) ≡ p
tag_leads d attrs p calls f rest l x =
    ap leading (append_assoc attrs (ended d calls) rest) ∙ l.leads (ended d calls ++ rest)
    ∙ ap (λ t. p ++ t) (ended_apart d calls f rest x) ∙ append-nil p

means_object : (d : ℕ) (element id typed : List ℕ) (attrs : List Call) (p : Attrs) (calls : List Call) (f : Nodes → Nodes) → Leads attrs p → Means calls f
    → Means (Line d ∷ ((Open element ∷ Attr xmi_id id ∷ Attr xmi_type typed ∷ attrs) ++ ended d calls))
    (λ more. Run (line_end d) (Element element ((xmi_id, id) ∷ (xmi_type, typed) ∷ p) (lined d f) more))
means_object d element id typed attrs p calls f l x = record {
  said = λ name names rest more es e.
      ap₂ (λ a y. Says (line_end d) ∷ Opens element ((xmi_id, id) ∷ (xmi_type, typed) ∷ a) ∷ y)
      (tag_leads d attrs p calls f rest l x)
      (ap joined_runs (ap (meant_in (element ∷ name ∷ names)) (append_assoc attrs (ended d calls) rest) ∙ l.silent (element ∷ name ∷ names) (ended d calls ++ rest))
      ∙ ended_said d element name names calls f rest (events_of more ++ es) x e)
      ∙ ap (λ y. Says (line_end d) ∷ Opens element ((xmi_id, id) ∷ (xmi_type, typed) ∷ p) ∷ y) (sym (append_assoc (events_of (lined d f)) (Closes ∷ events_of more) es));
  none = λ h more. absurd (omega (arith, h));
  some = λ h more others. refl;
  apart = λ rest e. refl;
}

-- ---- models

module _ (m : ModelData) where
  value_leads : (p : ℕ) (vs : List Value) → Leads (value_attr m.meta p vs) (value_pair m.meta p vs)
  value_leads p [] = leads_none
  value_leads p (v ∷ vs) = leads_one (prop_name m.meta p) (value_text m.meta v)

  partners_leads : (p : ℕ) (bs : List ℕ) → Leads (partners_attr m p bs) (partners_pair m p bs)
  partners_leads p [] = leads_none
  partners_leads p (b ∷ bs) = leads_one (prop_name m.meta p) _

  attr_leads : (o p : ℕ) → Leads (attr_calls m o p) (pair_at m o p)
  attr_leads o p = by (form_of m.meta p)
    where
      by : (f : Form) → Leads (attr_by m o p f) (pair_by m o p f)
      by forms.Attribute = value_leads p (values_at m o p)
      by forms.Elements = leads_none
      by forms.Identifiers = partners_leads p (partners_at m o p)
      by forms.Parts = leads_none
      by forms.Nesting = leads_none

  child_means : (depth : ℕ) (c : List ℕ → ℕ → List Call) (f : List ℕ → ℕ → Nodes → Nodes) → ((element : List ℕ) (b : ℕ) → Means (c element b) (f element b))
      → (o p : ℕ) → Means (child_calls m depth c o p) (child_nodes m depth f o p)
  child_means depth c f h o p = by (form_of m.meta p)
    where
      by : (t : Form) → Means (children_by m depth c o p t) (nodes_by m depth f o p t)
      by forms.Attribute = means_none
      by forms.Elements = means_each (value_element m.meta depth p) (value_nodes m.meta depth p) (values_at m o p) (λ v. means_value depth (prop_name m.meta p) (value_text m.meta v))
      by forms.Identifiers = means_none
      by forms.Parts = means_each (c (prop_name m.meta p)) (f (prop_name m.meta p)) (partners_at m o p) (h (prop_name m.meta p))
      by forms.Nesting = means_none

  object_means : (levels : ℕ) (element : List ℕ) (o : ℕ) → Means (object_calls m levels element o) (object_nodes m levels element o)
  object_means zero element o = means_none
  object_means (suc levels) element o =
      let d = depth_over levels in
      means_object d element (id_text m o) (typed_name m o)
      (flat_map (attr_calls m o) (object_props m o)) (flat_map (pair_at m o) (object_props m o))
      (flat_map (child_calls m (suc d) (object_calls m levels) o) (object_props m o)) (each_before (child_nodes m (suc d) (object_nodes m levels) o) (object_props m o))
      (leads_each (attr_calls m o) (pair_at m o) (object_props m o) (attr_leads o))
      (means_each (child_calls m (suc d) (object_calls m levels) o) (child_nodes m (suc d) (object_nodes m levels) o) (object_props m o)
      (child_means (suc d) (object_calls m levels) (object_nodes m levels) (object_means levels) o))

  tops_mean : Means (flat_map (top_calls m) (top_numbers m)) (each_before (top_nodes m) (top_numbers m))
  tops_mean = means_each (top_calls m) (top_nodes m) (top_numbers m) (λ o. object_means MAX_DEPTH (typed_name m o) o)

  pub tree_meant : joined_runs (meant (canon_calls m)) ≡ events (written_tree m)
  tree_meant =
      ap₂ (λ a es. Opens xmi_document ((codes "xmi:version", xmi_version) ∷ (codes "xmlns:xmi", xmi_namespace) ∷ (codes "xmlns:m", m.meta.name) ∷ a) ∷ es) (tops_mean.apart foot refl) (tops_mean.said xmi_document [] foot (Run (line_end 0) Ends) (Closes ∷ []) refl)
