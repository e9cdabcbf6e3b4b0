-- What is put of a model, in either form, is a file of that form, which is read as the same model, and which that one is written as again (XMI 2.5.1,
-- clause 9; RFC 8259).
use Rattle.std.proofs.Common.{◌≡◌, ℕ, Bool, true, false, cond, List, [], ◌∷◌, ◌++◌, length, get_or, drop, refl, sym, ap, ◌∙◌, subst, None, All, Contains, flat_map, codes, ◌==◌, encode_utf8_all}
use lib.Utf8.{encode}
use Rattle.std.proofs.lemmas.List.Elements.{Contains-get_or}
use Rattle.serde_json.specs.Data.{Data}
use Rattle.serde_json.specs.Written.{compact_text}
use Rattle.mof_metamodel.specs.declared.desc.MetaDesc.{MetaDesc}
use Rattle.mof_metamodel.specs.Metamodels.{props_of, type_of}
use Rattle.object_tables.specs.Kept.{Kept}
use Rattle.object_tables.specs.Models.{ModelData, class_at, id_at, values_at, is_class_type, IsLive, IsAttributeOf}
use Rattle.object_tables.specs.Sameness.{IsSame}
use Rattle.object_tables.specs.declared.value.Value.{Value}
use Rattle.object_tables.proofs.ModelLemmas.{live_from_class, live_from_id}
use Rattle.xmi_text.specs.Calls as calls
use Rattle.xmi_text.specs.Calls.{Call, after_call, wrote}
use Rattle.xmi_text.specs.Writing.{Written, nothing, is_tag, tag_end, escaped, declaration, declared}
use Rattle.model_assembly.specs.declared.fault.Externs.TheVariants as externs
use Rattle.xmi_profile.specs.Canon.{canon, top_calls, top_numbers, foot}
use Rattle.model_assembly.specs.Held.{IsHeld, HasHeldNames, IsHeldModel, MayBeWritten}
use Rattle.model_assembly.specs.Profile.{xmi_document, xmi_namespace, xmi_version}
use Rattle.model_assembly.proofs.HeldLaws.{values_held}
use Rattle.xmi_profile.proofs.written.Reading.{written_read}
use Rattle.model_files.specs.declared.file_form.Form.{Form}
use Rattle.model_files.specs.declared.file_form.Form.TheVariants.{Xmi, Json}
use Rattle.model_files.specs.CanonJson.{canon_json, model_data}
use Rattle.model_files.specs.FileForm.{form_of}
use Rattle.model_files.specs.Files.{FileSpells, SpellsIn}
use Rattle.model_files.specs.JsonContent.{SpellsModel}
use Rattle.model_files.proofs.FileLaws.{one_in}
use Rattle.model_files.proofs.JsonFormLaws.{written_right}
use Rattle.model_files.proofs.read_back.Dense.{dense, same_dense, valid_dense, shallow_dense, held_dense, few_dense, lives_dense, numbers_dense, value_same}
use Rattle.model_files.proofs.read_back.Linking.{content, objects_few}
use Rattle.model_files.proofs.read_back.Objects.{text_read, has_objects}
use Rattle.enforce_steps.specs.StepTexts.{text_in}
use Rattle.qvtr_engine.proofs.SameTexts.{same_bytes}

-- ---- the form of a text

-- a text begins with a character
abbrev Begins : ℕ → List ℕ → Type 0
Begins c text = (rest : List ℕ) × (text ≡ c ∷ rest)

longer : (c : ℕ) (text more : List ℕ) → Begins c text → Begins c (text ++ more)
longer c text more (rest, e) = (rest ++ more, ap (λ (xs : List ℕ). xs ++ more) e)

either : (c : ℕ) (t : Bool) (v w : Written) → Begins c v.text → Begins c w.text → Begins c (cond t v w).text
either c true v w b d = b
either c false v w b d = d

-- and so does what is written behind it
call_begins : (c : ℕ) (w : Written) (call : Call) → Begins c w.text → Begins c (after_call w call).text
call_begins c w (calls.Open name) b = longer c w.text _ b
call_begins c w (calls.Attr name value) b = longer c w.text _ b
call_begins c w (calls.Data text) b =
    either c (length text == 0) w (record { text = w.text ++ (tag_end (is_tag w.names) ++ escaped text); rooted = w.rooted; elements = w.elements; names = None }) b
    (longer c w.text _ b)
call_begins c w calls.Close b = longer c w.text _ b
call_begins c w calls.Declare b = longer c w.text _ b
call_begins c w (calls.Line depth) b = longer c w.text _ b

calls_begin : (c : ℕ) (w : Written) (behind : List Call) → Begins c w.text → Begins c (wrote w behind).text
calls_begin c w [] b = b
calls_begin c w (call ∷ behind) b = calls_begin c (after_call w call) behind (call_begins c w call b)

-- all calls of a document but the first
abbrev behind_first : ModelData → List Call
behind_first m =
    calls.Line 0 ∷ calls.Open xmi_document ∷ calls.Attr (codes "xmi:version") xmi_version ∷ calls.Attr (codes "xmlns:xmi") xmi_namespace
    ∷ calls.Attr (codes "xmlns:m") m.meta.name ∷ (flat_map (top_calls m) (top_numbers m) ++ foot)

xmi_begins : (m : ModelData) → Begins 60 (canon m)
xmi_begins m = calls_begin 60 (declared nothing) (behind_first m) (drop 1 declaration, refl)

markup_first : (rest : List ℕ) → form_of (encode_utf8_all (60 ∷ rest)) ≡ Xmi
unfolding encode
markup_first rest = refl

-- what is written in a form has it
pub form_written : (form : Form) (m : ModelData) → form_of (text_in form m) ≡ form
form_written Xmi m = let (rest, e) = xmi_begins m in ap (λ (t : List ℕ). form_of (encode_utf8_all t)) e ∙ markup_first rest
form_written Json m = refl

-- ---- it is read

module _ (m : ModelData) (w : MayBeWritten m) where
  abbrev n : ModelData
  n = dense m w.valid w.depth w.held

  spelled : SpellsModel m.meta (model_data n) n
  spelled =
      let valid = valid_dense m w.valid w.depth w.held in
      let flat = shallow_dense m w.valid w.depth w.held in
      let held = held_dense m w.valid w.depth w.held in
      let few = few_dense m w.valid w.depth w.held w.objects in
      let numbers = numbers_dense m w.valid w.depth w.held in
      let lives = lives_dense m w.valid w.depth w.held in
      record {
        shape = written_right n;
        right = (has_objects n valid flat held few).right;
        model = record { content = content n valid flat held few numbers lives; valid = valid; objects = objects_few n valid flat held few numbers lives; depth = flat };
      }

  json_spelled : SpellsIn m.meta externs.None (canon_json m) Json n
  json_spelled = (model_data m, text_read m w.valid w.depth w.held, subst (λ (d : Data). SpellsModel m.meta d n) (value_same m w.valid w.depth w.held) spelled)

  -- the text in a form is read as the same model
  read_in : (form : Form) → (k : ModelData) × SpellsIn m.meta externs.None (text_in form m) form k × IsSame m k
  read_in Xmi = written_read m w
  read_in Json = (n, json_spelled, same_dense m w.valid w.depth w.held)

  pub read_back : (form : Form) → (k : ModelData) × FileSpells m.meta externs.None (text_in form m) k × IsSame m k
  read_back form =
      let (k, spells, same) = read_in form in
      (k, subst (λ (f : Form). SpellsIn m.meta externs.None (text_in form m) f k) (sym (form_written form m)) spells, same)

  -- which is written as the same text
  written_in : (form : Form) (k : ModelData) → SpellsIn m.meta externs.None (text_in form m) form k → Kept k → IsSame m k → text_in form k ≡ text_in form m
  written_in Xmi k spells kept same = same_bytes m k w.valid.kept kept same
  written_in Json k spells kept same =
      let one : k ≡ n = one_in m.meta externs.None (canon_json m) Json k n spells json_spelled in
      ap canon_json one ∙ ap (λ (d : Data). compact_text d ++ 10 ∷ []) (value_same m w.valid w.depth w.held)

  pub written_again : (form : Form) (k : ModelData) → FileSpells m.meta externs.None (text_in form m) k → Kept k → IsSame m k → text_in form k ≡ text_in form m
  written_again form k spells kept same =
      written_in form k (subst (λ (f : Form). SpellsIn m.meta externs.None (text_in form m) f k) (form_written form m) spells) kept same

-- ---- it is held

module _ (m k : ModelData) (kept : Kept k) (same : IsSame m k) (held : IsHeldModel m) where
  attribute_back : (o p : ℕ) → IsAttributeOf k o p → IsAttributeOf m (same.origin o) p
  attribute_back o p a =
      let live : IsLive k o = live_from_class k o a.class a.class_is in
      record {
        class = a.class;
        class_is = sym (same.classes (same.origin o) (same.bijection.covered o live)) ∙ ap (class_at k) (same.bijection.there o live) ∙ a.class_is;
        has = subst (λ (d : MetaDesc). Contains (props_of d a.class) p) same.meta a.has;
        attribute = subst (λ (d : MetaDesc). is_class_type (type_of d p) ≡ false) same.meta a.attribute;
      }

  attributes_held : (o p : ℕ) → IsAttributeOf k o p → All IsHeld (values_at k o p)
  attributes_held o p a =
      let live : IsLive k o = live_from_class k o a.class a.class_is in
      let values : values_at k o p ≡ values_at m (same.origin o) p =
      ap (λ (x : ℕ). values_at k x p) (sym (same.bijection.there o live)) ∙ same.values (same.origin o) p (attribute_back o p a) in
      subst (λ (vs : List Value). All IsHeld vs) (sym values)
      (λ i d l. held.values (same.origin o) p (get_or (values_at m (same.origin o) p) i d) (Contains-get_or (values_at m (same.origin o) p) i d l))

  -- a model that is the same as one that code can hold is one that code can hold
  pub held_again : IsHeldModel k
  held_again = record {
    names = subst HasHeldNames (sym same.meta) held.names;
    ids = λ o id e. (
        let live : IsLive k o = live_from_id k o id e in
        held.ids (same.origin o) id (sym (same.identifiers (same.origin o) (same.bijection.covered o live)) ∙ ap (id_at k) (same.bijection.there o live) ∙ e));
    values = values_held k kept attributes_held;
  }
