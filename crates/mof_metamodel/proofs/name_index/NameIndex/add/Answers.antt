use Rattle.std.proofs.Common.{◌≡◌, ◌+◌, ◌∙◌, ap, false, ◌++◌, ◌∷◌, [], length, cond}
use Rattle.std.specs.Prelude.{chars, is_some, position, Option, None, Some, string_bytes, String}
use Rattle.std.specs.declared.alloc.Global.{Global}
use Rattle.std.specs.String.{string_cmp}
use Rattle.std.specs.Map.{lookup}
use Rattle.std.specs.BTreeMap.{insert_entry, is_at}
use Rattle.std.proofs.lemmas.Str.{IsUtf8-string_bytes}
use Rattle.mof_metamodel.specs.Characters.{same_name}
use Rattle.mof_metamodel.proofs.NameIndexLemmas.{ordered_lookup, names_more, index_more}
use Rattle.mof_metamodel.proofs.name_index.NameIndex.add.Goals as goal

none_from : {X : Type 0} (o : Option X) → is_some o ≡ false → o ≡ None
none_from None e = cc
none_from (Some x) e = absurd cc

pub invariant_of-self-2 : goal.invariant_of-self-2
invariant_of-self-2 c =
    let key : String Global = c.into_string.result in
    let es = c.self.inside.places.entries in
    let absent : lookup (is_at (string_cmp key)) es ≡ None =
    ordered_lookup (string_bytes key) es (IsUtf8-string_bytes key) ∙ c.self.invariant.found (chars (string_bytes key))
    ∙ ap (position (same_name (chars (string_bytes key)))) c.self.view_is ∙ ap (λ name. position (same_name name) c.args.self.now) c.into_string.ensures.characters ∙ none_from _ c.requires in
    index_more key es absent c.self.invariant c.insert.new.self.entries
    (c.in_ok-insert.ensures.entries ∙ ap (insert_entry string_cmp es key) c.len-place.ensures.len)
    (c.in_ok-insert.ensures.len ∙ ap (λ o. length es + cond (is_some o) 0 1) (c.in_ok-insert.ensures.old ∙ absent))

pub returns-clause-ok : goal.returns-clause-ok
returns-clause-ok c =
    let key : String Global = c.into_string.result in
    let es = c.self.inside.places.entries in
    let absent : lookup (is_at (string_cmp key)) es ≡ None =
    ordered_lookup (string_bytes key) es (IsUtf8-string_bytes key) ∙ c.self.invariant.found (chars (string_bytes key))
    ∙ ap (position (same_name (chars (string_bytes key)))) c.self.view_is ∙ ap (λ name. position (same_name name) c.args.self.now) c.into_string.ensures.characters ∙ none_from _ c.requires in
    names_more key es absent c.self.invariant c.insert.new.self.entries
    (c.in_ok-insert.ensures.entries ∙ ap (insert_entry string_cmp es key) c.len-place.ensures.len)
    (c.in_ok-insert.ensures.len ∙ ap (λ o. length es + cond (is_some o) 0 1) (c.in_ok-insert.ensures.old ∙ absent))
    ∙ ap (λ names. names ++ chars (string_bytes key) ∷ []) c.self.view_is ∙ ap (λ name. c.args.self.now ++ name ∷ []) c.into_string.ensures.characters
