-- The canonical text of a model is a document, of the model's tree.
use Rattle.std.proofs.Common.{◌≡◌, ℕ, zero, suc, Bool, true, false, cond, List, [], ◌∷◌, ◌++◌, length, map, refl, sym, ◌∙◌, ap, Option, None, Some}
use Rattle.std.specs.Prelude.{◌==◌, Contains, ℤ, FitsSigned}
use Rattle.std.specs.Int.{w64}
use Rattle.std.specs.List.{flat_map}
use Rattle.std.specs.Fmt.{signed_decimal}
use Rattle.std.specs.Str.{all_scalars}
use Rattle.std.proofs.lemmas.Str.{chars-IsAscii, IsUtf8-from_ascii, scalars-chars}
use Rattle.std.proofs.lemmas.Fmt.{IsAscii-signed}
use Rattle.object_tables.specs.declared.limit.TheConstants.{MAX_DEPTH}
use Rattle.object_tables.specs.declared.value.Value.{Value}
use Rattle.object_tables.specs.declared.value.Value.TheVariants as values
use Rattle.object_tables.specs.Models.{ModelData, class_at, id_at, values_at, partners_at}
use Rattle.object_tables.specs.Kept.{Kept}
use Rattle.xmi_text.specs.Calls.{Call, Open, Attr, Data, Close, Declare, Line, after_call, wrote, AllMay}
use Rattle.xmi_text.specs.Markup.{Markup}
use Rattle.xmi_text.specs.Trees.{Tree, events}
use Rattle.xmi_text.specs.Writing.{Written, nothing, is_whole}
use Rattle.xmi_text.proofs.writing.Written.{scalars-append, written_markup}
use Rattle.model_assembly.specs.declared.form.Form.{Form}
use Rattle.model_assembly.specs.declared.form.Form.TheVariants as forms
use Rattle.xmi_profile.specs.Canon.{value_text, spaced_behind, typed_name, value_attr, partners_attr, attr_by, attr_calls, tag_calls, value_element, children_by, child_calls, ended, depth_over, object_calls, top_calls, top_numbers, head, foot, canon_calls, canon_bytes}
use Rattle.model_assembly.specs.Forms.{form_of}
use Rattle.model_assembly.specs.Held.{IsHeldText, IsHeld, IsHeldModel}
use Rattle.model_assembly.specs.Profile.{prop_name, id_or_none, id_text, name_or_none, class_text, object_props}
use Rattle.xmi_profile.specs.Writable.{CanWrite}
use Rattle.xmi_profile.specs.WrittenTree.{written_tree}
use Rattle.xmi_profile.proofs.WritingCalls.{can_both}
use Rattle.model_assembly.proofs.assembling.ListLaws.{contains_tail}
use Rattle.mof_metamodel.proofs.Facts.{contains_first}
use Rattle.xmi_profile.proofs.WritingModels.{AreCanonSteps, canon_steps}
use Rattle.xmi_profile.proofs.written.Meaning.{tree_meant}

-- ---- calls whose texts are of characters

abbrev HasTexts : Call → Type 0
HasTexts (Open name) = IsHeldText name
HasTexts (Attr name value) = IsHeldText name × IsHeldText value
HasTexts (Data text) = IsHeldText text
HasTexts Close = Unit {0}
HasTexts Declare = Unit {0}
HasTexts (Line depth) = Unit {0}

abbrev HaveTexts : List Call → Type 0
HaveTexts [] = Unit {0}
HaveTexts (call ∷ calls) = HasTexts call × HaveTexts calls

texts_both : (a b : List Call) → HaveTexts a → HaveTexts b → HaveTexts (a ++ b)
texts_both [] b x y = y
texts_both (c ∷ a) b x y = (x.0, texts_both a b x.1 y)

texts_each : {X : Type 0} (f : X → List Call) (xs : List X) → ((x : X) → Contains xs x → HaveTexts (f x)) → HaveTexts (flat_map f xs)
texts_each f [] h = tt
texts_each f (x ∷ xs) h = texts_both (f x) (flat_map f xs) (h x (contains_first x xs)) (texts_each f xs (λ y c. h y (contains_tail x y xs c)))

all_may : (w : Written) (calls : List Call) → CanWrite w calls → HaveTexts calls → AllMay w calls
all_may w [] k h = tt
all_may w (Open name ∷ calls) k h = ((h.0, k.0.0, k.0.1), all_may (after_call w (Open name)) calls k.1 h.1)
all_may w (Attr name value ∷ calls) k h =
    let can = k.0 in
    let has = h.0 in
    ((has.0, has.1, can.0, can.1, can.2), all_may (after_call w (Attr name value)) calls k.1 h.1)
all_may w (Data text ∷ calls) k h = ((h.0, k.0.0, k.0.1), all_may (after_call w (Data text)) calls k.1 h.1)
all_may w (Close ∷ calls) k h = (k.0, all_may (after_call w Close) calls k.1 h.1)
all_may w (Declare ∷ calls) k h = (k.0, all_may (after_call w Declare) calls k.1 h.1)
all_may w (Line depth ∷ calls) k h = (tt, all_may (after_call w (Line depth)) calls k.1 h.1)

-- ---- texts

number_held : (i : ℤ) → FitsSigned w64 i → IsHeldText (signed_decimal i)
number_held i f =
    let ascii = IsAscii-signed i f.sfits in
    ap all_scalars (sym (chars-IsAscii (signed_decimal i) ascii)) ∙ scalars-chars (signed_decimal i) (IsUtf8-from_ascii (signed_decimal i) ascii)

-- a document of another tree that has the same events
retold : (bytes : List ℕ) (tree other : Tree) → Markup bytes tree → events tree ≡ events other → Markup bytes other
retold bytes tree other k e = record { document = k.document; whole = k.whole; scalars = k.scalars; written = k.written; means = k.means ∙ e }

module _ (m : ModelData) (held : IsHeldModel m) where
  value_held : (v : Value) → IsHeld v → IsHeldText (value_text m.meta v)
  value_held (values.Str text) h = h
  value_held (values.Int i) h = number_held i h
  value_held (values.Bool true) h = refl
  value_held (values.Bool false) h = refl
  value_held (values.Lit e n) h = held.names.literals e.0 n

  pub id_held : (o : ℕ) → IsHeldText (id_text m o)
  id_held o = by (id_at m o) refl
    where
      by : (x : Option (List ℕ)) → id_at m o ≡ x → IsHeldText (id_or_none x)
      by None e = refl
      by (Some id) e = held.ids o id e

  spaced_held : (b : ℕ) (bs : List ℕ) → IsHeldText (spaced_behind (id_text m b) (map (id_text m) bs))
  spaced_held b [] = id_held b
  spaced_held b (c ∷ bs) = scalars-append (id_text m b) (32 ∷ spaced_behind (id_text m c) (map (id_text m) bs)) (id_held b) (spaced_held c bs)

  pub class_held : (o : ℕ) → IsHeldText (class_text m o)
  class_held o = by (class_at m o)
    where
      by : (c : Option ℕ) → IsHeldText (name_or_none m.meta c)
      by None = refl
      by (Some c) = held.names.classes c

  -- ---- what is written of objects

  value_attr_held : (p : ℕ) (vs : List Value) → ((v : Value) → Contains vs v → IsHeld v) → HaveTexts (value_attr m.meta p vs)
  value_attr_held p [] h = tt
  value_attr_held p (v ∷ vs) h = ((held.names.props p, value_held v (h v (contains_first v vs))), tt)

  partners_attr_held : (p : ℕ) (bs : List ℕ) → HaveTexts (partners_attr m p bs)
  partners_attr_held p [] = tt
  partners_attr_held p (b ∷ bs) = ((held.names.props p, spaced_held b bs), tt)

  attr_held : (o p : ℕ) → HaveTexts (attr_calls m o p)
  attr_held o p = by (form_of m.meta p)
    where
      by : (f : Form) → HaveTexts (attr_by m o p f)
      by forms.Attribute = value_attr_held p (values_at m o p) (held.values o p)
      by forms.Elements = tt
      by forms.Identifiers = partners_attr_held p (partners_at m o p)
      by forms.Parts = tt
      by forms.Nesting = tt

  child_held : (depth : ℕ) (c : List ℕ → ℕ → List Call) → ((p b : ℕ) → HaveTexts (c (prop_name m.meta p) b)) → (o p : ℕ) → HaveTexts (child_calls m depth c o p)
  child_held depth c h o p = by (form_of m.meta p)
    where
      by : (f : Form) → HaveTexts (children_by m depth c o p f)
      by forms.Attribute = tt
      by forms.Elements = texts_each (value_element m.meta depth p) (values_at m o p) (λ v k. (tt, (held.names.props p, (value_held v (held.values o p v k), (tt, tt)))))
      by forms.Identifiers = tt
      by forms.Parts = texts_each (c (prop_name m.meta p)) (partners_at m o p) (λ b k. h p b)
      by forms.Nesting = tt

  ended_held : (depth : ℕ) (calls : List Call) → HaveTexts calls → HaveTexts (ended depth calls)
  ended_held depth calls h = by (length calls == 0)
    where
      by : (t : Bool) → HaveTexts (cond t (Close ∷ []) (calls ++ (Line depth ∷ Close ∷ [])))
      by true = (tt, tt)
      by false = texts_both calls (Line depth ∷ Close ∷ []) h (tt, (tt, tt))

  object_held : (levels : ℕ) (element : List ℕ) (o : ℕ) → IsHeldText element → HaveTexts (object_calls m levels element o)
  object_held zero element o h = tt
  object_held (suc levels) element o h =
      let d = depth_over levels in
      let children = flat_map (child_calls m (suc d) (object_calls m levels) o) (object_props m o) in
      let attrs = flat_map (attr_calls m o) (object_props m o) in
      let inner : HaveTexts children =
      texts_each (child_calls m (suc d) (object_calls m levels) o) (object_props m o)
      (λ p k. child_held (suc d) (object_calls m levels) (λ q b. object_held levels (prop_name m.meta q) b (held.names.props q)) o p) in
      let tag : HaveTexts (tag_calls m element o) = (h, ((refl, id_held o), ((refl, class_held o), texts_each (attr_calls m o) (object_props m o) (λ p k. attr_held o p)))) in
      (tt, texts_both (tag_calls m element o) (ended d children) tag (ended_held d children inner))

  calls_held : HaveTexts (canon_calls m)
  calls_held =
      let tops = flat_map (top_calls m) (top_numbers m) in
      let first : HaveTexts (head m.meta) = (tt, (tt, (refl, ((refl, refl), ((refl, refl), ((refl, held.names.metamodel), tt)))))) in
      let second : HaveTexts tops = texts_each (top_calls m) (top_numbers m) (λ o k. object_held MAX_DEPTH (typed_name m o) o (class_held o)) in
      texts_both (head m.meta) (tops ++ foot) first (texts_both tops foot second (tt, (tt, (tt, tt))))

  -- ---- the document

  pub canon_markup : Kept m → Markup (canon_bytes m) (written_tree m)
  canon_markup k =
      let tops = flat_map (top_calls m) (top_numbers m) in
      let w1 : Written = wrote nothing (head m.meta) in
      let w2 : Written = wrote w1 tops in
      let w3 : Written = wrote w2 foot in
      let steps : AreCanonSteps m w1 w2 w3 = canon_steps m k w1 w2 w3 refl refl refl in
      let can : CanWrite nothing (canon_calls m) = can_both nothing (head m.meta) (tops ++ foot) steps.head (can_both w1 tops foot steps.tops steps.foot) in
      let whole : is_whole (wrote nothing (canon_calls m)) ≡ true = ap is_whole (sym steps.all) ∙ steps.whole in
      let (tree, meaning, markup) = written_markup (canon_calls m) (all_may nothing (canon_calls m) can calls_held) whole in
      retold (canon_bytes m) tree (written_tree m) markup (sym meaning ∙ tree_meant m)
