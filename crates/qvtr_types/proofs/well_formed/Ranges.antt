-- The numbers in what a script resolves to name what is there.
use Rattle.std.proofs.Common.{◌≡◌, ◌≢◌, ◌<◌, ℕ, List, Bool, true, length, refl, sym, ◌∙◌, ap, subst, arith, true≢false}
use Rattle.std.specs.Prelude.{Some, Ok, Contains, slice_get, nat_lt}
use Rattle.std.specs.List.{AllZip}
use Rattle.std.proofs.lemmas.Bool.{ltb-true}
use Rattle.std.proofs.lemmas.Option.{same_Some, none-some, slice_get_within, slice_get-get_or, get_or_from_slice_get}
use Rattle.std.proofs.lemmas.List.{length-map}
use Rattle.std.proofs.lemmas.Slice.Zip.{AllZip-long}
use Rattle.mof_metamodel.specs.declared.desc.MetaDesc.{MetaDesc}
use Rattle.mof_metamodel.specs.declared.desc.ClassId.{ClassId}
use Rattle.mof_metamodel.specs.declared.desc.EnumId.{EnumId}
use Rattle.mof_metamodel.specs.Metamodels.{props_of, prop_number, class_count, enum_count}
use Rattle.mof_metamodel.proofs.SearchLemmas.{passes_each}
use Rattle.qv_syntax.specs.declared.type_tree.Kind.{Kind}
use Rattle.qv_syntax.specs.declared.ty.Ty.{Ty, out-Ty, roll-Ty, roll-out-Ty, fold-roll-Ty}
use Rattle.qv_syntax.specs.declared.ty.Ty.TheVariants as types
use Rattle.qv_syntax.specs.declared.ty.Ty.TheOpen as of
use Rattle.qv_syntax.specs.declared.query.ModelSlot.{ModelSlot}
use Rattle.qv_syntax.specs.declared.script.RelationTree.{RelationTree}
use Rattle.qv_syntax.specs.declared.program.Program.{Program}
use Rattle.qv_syntax.specs.declared.program.Rel.{Rel}
use Rattle.qv_syntax.specs.declared.program.Var.{Var}
use Rattle.qv_syntax.specs.declared.program.Dom.{Dom}
use Rattle.qv_syntax.specs.declared.program.Tmpl.{Tmpl, out-Tmpl}
use Rattle.qv_syntax.specs.declared.program.Item.{Item}
use Rattle.qv_syntax.specs.Types.{IsClassIn, IsEnumIn, IsSingleType}
use Rattle.qv_syntax.specs.Relations.{IsModelDomain, IsTemplateOf}
use Rattle.qv_syntax.specs.ProgramNumbers.{AreVariablesInRange, IsTemplateInRange, IsRelationInRange}
use Rattle.ocl_environments.specs.declared.fault.TypeFault.{TypeFault}
use Rattle.ocl_environments.specs.Environments.{IsInOrder, no_meta, meta_at, is_over, is_over_step, is_flat, is_flat_layer, class_of}
use Rattle.script_scopes.specs.ScriptNames.{model_names}
use Rattle.qv_syntax.specs.declared.name.Path.{Path}
use Rattle.script_scopes.specs.Occurrences.{Piece, pieces_of, relations_of, variables_of, root_of}
use Rattle.script_scopes.specs.Divisions.{first_template}
use Rattle.script_scopes.specs.Environments.{Setting, in_script, slot_of, slots_of}
use Rattle.script_scopes.specs.Declarations.{relation_names, meta_of, HasVariableType}
use Rattle.script_scopes.specs.Resolutions.{IsVariable, IsRelation, model_number, domain_reach}
use Rattle.script_scopes.specs.Faults.{StandsInScript, StandsInDeclarations}
use Rattle.script_variables.specs.SettledRelations.{IsSettled}
use Rattle.ocl_types.proofs.LayerLaws.{class_of_class, class_of_collection}
use Rattle.std.proofs.lemmas.Bool.{and_parts}
use Rattle.mof_metamodel.proofs.MetaLaws.{prop_named}
use Rattle.script_scopes.proofs.CallRowLaws.{among_some}
use Rattle.qvtr_types.proofs.ProgramCallLaws.{when_from, where_from}
use Rattle.qvtr_types.proofs.ZipLemmas.{zip_right}
use Rattle.qvtr_types.proofs.OccurrenceLaws.{domain_variable}
use Rattle.qvtr_types.proofs.well_formed.Numbers.{AreApart, place_within}
use Rattle.qvtr_types.proofs.well_formed.Templates.{IsItemTold}
use Rattle.qvtr_types.proofs.well_formed.Domains.{comes_from, root_at}
use Rattle.qvtr_types.proofs.well_formed.Universal.{name_of}
use Rattle.qvtr_types.proofs.well_formed.Shapes.{IsTyped, typed, model_at, meta_is}
use Rattle.qvtr_types.proofs.well_formed.Typing.{fitting, class_in}

-- ---- types of variables

enum_over : (metas : List MetaDesc) (m : ℕ) (e : EnumId) → is_over metas (types.Enum m e) ≡ true → IsEnumIn metas m e
enum_over metas m e over =
    let both = and_parts (nat_lt m (length metas)) (nat_lt e.0 (enum_count (meta_at metas m))) (sym (fold-roll-Ty Bool (is_over_step metas) (of.Enum m e)) ∙ ap (is_over metas) (types.rolls-Enum m e) ∙ over) in
    record { meta = meta_at metas m; found = slice_get-get_or metas m no_meta (ltb-true _ _ both.0); within = ltb-true _ _ both.1 }

class_there : (metas : List MetaDesc) (m : ℕ) (c : ClassId) → is_over metas (types.Class m c) ≡ true → IsClassIn metas m c
class_there metas m c over =
    let both = and_parts (nat_lt m (length metas)) (nat_lt c.0 (class_count (meta_at metas m))) (sym (fold-roll-Ty Bool (is_over_step metas) (of.Class m c)) ∙ ap (is_over metas) (types.rolls-Class m c) ∙ over) in
    record { meta = meta_at metas m; found = slice_get-get_or metas m no_meta (ltb-true _ _ both.0); within = ltb-true _ _ both.1 }

single_layer : (metas : List MetaDesc) (l : of.Ty-F Ty) → is_over metas (roll-Ty l) ≡ true → is_flat_layer l ≡ true → ((kind : Kind) (inner : Ty) → roll-Ty l ≢ types.Coll kind inner) → IsSingleType metas (roll-Ty l)
single_layer metas of.Str over flat apart = subst (IsSingleType metas) (sym types.rolls-Str) tt
single_layer metas of.Int over flat apart = subst (IsSingleType metas) (sym types.rolls-Int) tt
single_layer metas of.Bool over flat apart = subst (IsSingleType metas) (sym types.rolls-Bool) tt
single_layer metas (of.Enum m e) over flat apart = subst (IsSingleType metas) (sym (types.rolls-Enum m e)) (enum_over metas m e (ap (is_over metas) (sym (types.rolls-Enum m e)) ∙ over))
single_layer metas (of.Class m c) over flat apart = subst (IsSingleType metas) (sym (types.rolls-Class m c)) (class_there metas m c (ap (is_over metas) (sym (types.rolls-Class m c)) ∙ over))
single_layer metas (of.Coll kind inner) over flat apart = absurd (apart kind inner (types.rolls-Coll kind inner))
single_layer metas of.Null over flat apart = absurd (true≢false (sym flat))

single_type : (metas : List MetaDesc) (ty : Ty) → is_over metas ty ≡ true → is_flat ty ≡ true → ((kind : Kind) (inner : Ty) → ty ≢ types.Coll kind inner) → IsSingleType metas ty
single_type metas ty over flat apart = subst (IsSingleType metas) (roll-out-Ty ty)
    (single_layer metas (out-Ty ty) (ap (is_over metas) (roll-out-Ty ty) ∙ over) flat (λ kind inner same. apart kind inner (sym (roll-out-Ty ty) ∙ same)))

no_class_collection : (m : ℕ) (c : ClassId) (kind : Kind) (inner : Ty) → types.Class m c ≡ types.Coll kind inner → ⊥
no_class_collection m c kind inner same = none-some (m, c) (sym (class_of_collection kind inner) ∙ ap class_of (sym same) ∙ class_of_class m c)

module _ (s : Setting) (program : Program) (none : (f : TypeFault) → StandsInScript s f → ⊥) (models : program.models ≡ slots_of s.script)
    (aimed : slice_get (model_names s.script.models) program.target ≡ Some s.target) (rels : AllZip (IsRelation s) (relations_of s.script) program.rels)
    (models_apart : AreApart (model_names s.script.models)) (relations_apart : AreApart (relation_names s.script)) where
  pub model_count : length program.models ≡ length (model_names s.script.models)
  model_count = ap length models ∙ length-map s.script.models (slot_of s.script) ∙ sym (length-map s.script.models (λ m. m.name.text))

  module _ (r : RelationTree) (rel : Rel) (among : Contains (relations_of s.script) r) (is : IsRelation s r rel) (settled : IsSettled s r rel.vars) where
    count : length rel.vars ≡ length (variables_of r)
    count = AllZip-long (IsVariable s r) (variables_of r) rel.vars is.vars

    no_collection : (name : List ℕ) (ty : Ty) → HasVariableType s.metas s.script (in_script s) r name ty → (kind : Kind) (inner : Ty) → ty ≢ types.Coll kind inner
    no_collection name ty (HasVariableType.is_written tree w written) kind inner same =
        none _ (StandsInScript.declaration r _ among (StandsInDeclarations.collection name tree kind inner w (written ∙ ap Ok same)))
    no_collection name ty (HasVariableType.template t) kind inner same = no_class_collection (meta_of s.script t.model) t.class kind inner (sym t.is ∙ same)

    single : (var : Var) → Contains rel.vars var → IsSingleType s.metas var.ty
    single var c =
        let v = among_some rel.vars var c in
        let name = name_of s program aimed models_apart r rel is v.0 var v.1 in
        let fit = fitting s r rel.vars settled.in_order v.0 name.0 var name.1 v.1 in
        single_type s.metas var.ty fit.over fit.flat (no_collection name.0 var.ty name.2.typed)

    variable_model : (var : Var) (m : ℕ) → Contains rel.vars var → var.model ≡ Some m → m < length program.models
    variable_model var m c has =
        let v = among_some rel.vars var c in
        let name = name_of s program aimed models_apart r rel is v.0 var v.1 in
        let fit = fitting s r rel.vars settled.in_order v.0 name.0 var name.1 v.1 in
        let slot = fit.object m has in
        let within = slice_get_within (slots_of s.script) m slot.0 slot.1 in
        subst (λ (xs : List ModelSlot). m < length xs) (sym models) within

    variables_in_range : AreVariablesInRange s.metas program rel
    variables_in_range = record {
      types = single;
      models = variable_model;
      universal = λ v c. let below = is.universal.within v c in omega (arith, below, count);
      existential = λ v c. let below = is.existential.within v c in omega (arith, below, count);
    }

    root_within : (dom : Dom) → Contains rel.domains dom → dom.root < length rel.vars
    root_within dom c =
        let from = comes_from s r rel is.domains dom c in
        let root = root_at s r rel.vars (first_template r from.place) from.domain dom from.is in
        let known = domain_variable r (root_of from.domain) from.place from.domain from.found (0, omega arith, refl) in
        let below = place_within (variables_of r) (root_of from.domain) known in
        omega (arith, root, below, count)

    model_within : (dom : Dom) (m : ℕ) → Contains rel.domains dom → dom.model ≡ Some m → m < length program.models
    model_within dom m c has =
        let from = comes_from s r rel is.domains dom c in
        let at = model_at s r rel.vars (first_template r from.place) from.domain dom from.is m has in
        let below = place_within (model_names s.script.models) at.0 at.2 in
        let same = at.3 in
        let long = model_count in
        omega (arith, below, same, long)

    -- ---- templates

    item_named : (model : List ℕ) (all : List Piece) (path : Path) (class : ClassId) (item : Item) → IsItemTold (domain_reach s r rel.vars model) all path class item
        → (name : List ℕ) × (prop_number (meta_at s.metas (meta_of s.script model)) class.0 name ≡ Some item.prop.0)
    item_named model all path class item (IsItemTold.empty name named null) = (name, named)
    item_named model all path class item (IsItemTold.expression name e t named c null has at) = (name, named)
    item_named model all path class item (IsItemTold.nested name v inner part named c of at) = (name, named)

    pub template_class_in : (dom : Dom) (t : Tmpl) (h : IsTyped s program models models_apart r rel is settled.one dom t) → IsClassIn s.metas (meta_of s.script h.told.model) (out-Tmpl t).class
    template_class_in dom t h =
        let v = (out-Tmpl t).var in
        let name = name_of s program aimed models_apart r rel is v h.var h.found in
        let fit = fitting s r rel.vars settled.in_order v name.0 h.var name.1 h.found in
        class_in s.metas settled.in_order.well (meta_of s.script h.told.model) (out-Tmpl t).class (ap (is_over s.metas) (sym h.class) ∙ fit.over)

    template_within : (dom : Dom) (d : IsModelDomain program rel dom) (t : Tmpl) → IsTemplateOf dom t → IsTemplateInRange s.metas rel d.slot.meta t
    template_within dom d t of =
        let h = typed s program models models_apart r rel is settled.one dom d.is t of in
        let number : model_number s h.told.model ≡ d.model = same_Some _ d.model (sym h.told.number ∙ d.of_model) in
        let meta : d.slot.meta ≡ meta_of s.script h.told.model = meta_is s program models models_apart h.told.model d.model d.slot number d.found in
        subst (λ (m : ℕ). IsTemplateInRange s.metas rel m t) (sym meta) (record {
          var = slice_get_within rel.vars (out-Tmpl t).var h.var h.found;
          class = template_class_in dom t h;
          items = λ item c.
              let named = item_named h.told.model (pieces_of (first_template r h.from.place) h.from.domain) h.told.told.path (out-Tmpl t).class item (h.told.told.items_told item c) in
              let class = template_class_in dom t h in
              let same : meta_at s.metas (meta_of s.script h.told.model) ≡ class.meta = get_or_from_slice_get s.metas (meta_of s.script h.told.model) class.meta no_meta class.found in
              subst (λ (d : MetaDesc). Contains (props_of d (out-Tmpl t).class.0) item.prop.0) same
              (prop_named (meta_at s.metas (meta_of s.script h.told.model)) (out-Tmpl t).class.0 named.0 (Some item.prop) (sym named.1)).has;
        })

    -- ---- calls

    called_within : (number : ℕ) (called : RelationTree) → slice_get (relations_of s.script) number ≡ Some called → number < length program.rels
    called_within number called at =
        let there = zip_right (IsRelation s) (relations_of s.script) program.rels number called rels at in
        slice_get_within program.rels number there.0 there.1

    pub relation_in_range : IsRelationInRange s.metas program rel
    relation_in_range = record {
      vars = variables_in_range;
      roots = root_within;
      models = model_within;
      templates = template_within;
      when_calls = λ number calls. let c = when_from s relations_apart program rels r rel is number calls in called_within number c.0 c.1;
      where_calls = λ number calls. let c = where_from s relations_apart program rels r rel is number calls in called_within number c.0 c.1;
    }

  -- ---- models

  pub slots_within : IsInOrder (in_script s) → (slot : ModelSlot) → Contains program.models slot → slot.meta < length s.metas
  slots_within order slot c = ltb-true _ _ (passes_each (λ (x : ModelSlot). nat_lt x.meta (length s.metas)) (slots_of s.script) order.placed slot (subst (λ (xs : List ModelSlot). Contains xs slot) models c))

  pub target_within : program.target < length program.models
  target_within = let below = slice_get_within (model_names s.script.models) program.target s.target aimed in let long = model_count in omega (arith, below, long)
