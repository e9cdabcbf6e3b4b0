-- An item that is a variable alone, at any depth of a side's domain, is one of the side's links.
use Rattle.std.specs.Prelude.{◌≡◌, ℕ, true, List, [], ◌++◌, map, Some, Contains, if◌then◌else◌}
use Rattle.std.specs.List.{flat_map}
use Rattle.std.specs.Option.{option_map_or}
use Rattle.std.proofs.Common.{refl, sym, ap, subst, ◌∙◌}
use Rattle.mof_metamodel.specs.declared.desc.PropId.{PropId}
use Rattle.mof_metamodel.proofs.PropLemmas.{to_flat_map}
use Rattle.qv_syntax.specs.declared.program.Program.{Program}
use Rattle.qv_syntax.specs.declared.program.Rel.{Rel}
use Rattle.qv_syntax.specs.declared.program.Dom.{Dom}
use Rattle.qv_syntax.specs.declared.program.Tmpl.{Tmpl, out-Tmpl, fold-roll-Tmpl, roll-out-Tmpl}
use Rattle.qv_syntax.specs.declared.program.Item.{Item, fold-roll-Item}
use Rattle.qv_syntax.specs.declared.program.ItemValue.{ItemValue, fold-roll-ItemValue}
use Rattle.qv_syntax.specs.declared.program.ItemValue.TheVariants as items
use Rattle.qv_syntax.specs.declared.program.ItemValue.TheOpen as layers
use Rattle.qv_syntax.specs.declared.typed.Typed.{Typed}
use Rattle.qv_syntax.specs.declared.typed.Node.{out-Node, out-roll-Node}
use Rattle.qv_syntax.specs.declared.typed.Node.TheVariants as forms
use Rattle.qv_syntax.specs.declared.typed.Call.TheOpen as nodes
use Rattle.qv_syntax.specs.Parts.{IsNested, HasItem}
use Rattle.qv_syntax.specs.Relations.{IsItemAlone}
use Rattle.template_match.proofs.ListLaws.{contains_right}
use Rattle.mof_metamodel.proofs.Facts.{contains_first}
use Rattle.template_match.specs.declared.side.Side.{Side}
use Rattle.template_match.specs.declared.link.Link.{Link}
use Rattle.template_match.specs.Links.{Held, Linked, variable_alone, own_link, value_links, item_links, tmpl_links, linked, links_of_item, held_in, links_of, domain_links, side_links}
use Rattle.template_match.specs.Sides.{is_of_side}
use Rattle.mof_metamodel.proofs.Facts.{contains_map}

-- ---- what the links of a form are

nested_held : (t : Tmpl) → held_in (items.Nested t) ≡ record { var = Some (linked t).var; links = links_of t }
nested_held t = ap held_in (sym (items.rolls-Nested t)) ∙ fold-roll-ItemValue Held (ℕ → List Link) Linked value_links item_links tmpl_links (layers.Nested t)

expr_held : (e : Typed) → held_in (items.Expr e) ≡ record { var = variable_alone (out-Node e.node); links = [] }
expr_held e = ap held_in (sym (items.rolls-Expr e)) ∙ fold-roll-ItemValue Held (ℕ → List Link) Linked value_links item_links tmpl_links (layers.Expr e)

item_is : (prop : PropId) (value : ItemValue) (u : ℕ) → links_of_item (record { prop = prop; value = value }) u ≡ own_link u prop (held_in value).var ++ (held_in value).links
item_is prop value u = ap (λ (f : ℕ → List Link). f u) (fold-roll-Item Held (ℕ → List Link) Linked value_links item_links tmpl_links (record { prop = prop; value = value }))

links_are : (t : Tmpl) → links_of t ≡ flat_map (λ (f : ℕ → List Link). f (out-Tmpl t).var) (map links_of_item (out-Tmpl t).items)
links_are t = ap links_of (sym (roll-out-Tmpl t)) ∙ ap (λ (l : Linked). l.links) (fold-roll-Tmpl Held (ℕ → List Link) Linked value_links item_links tmpl_links (out-Tmpl t))

of_item : (t : Tmpl) (item : Item) (l : Link) → HasItem t item → Contains (links_of_item item (out-Tmpl t).var) l → Contains (links_of t) l
of_item t item l has c =
    subst (λ ls. Contains ls l) (sym (links_are t))
    (to_flat_map (λ (f : ℕ → List Link). f (out-Tmpl t).var) (map links_of_item (out-Tmpl t).items) (links_of_item item) l (contains_map links_of_item (out-Tmpl t).items item has) c)

-- ---- depth

nested_links : (root t : Tmpl) → IsNested root t → (l : Link) → Contains (links_of t) l → Contains (links_of root) l
nested_links root t (IsNested.whole u) l c = c
nested_links root t (IsNested.inside u prop part inner has nested) l c =
    of_item u (record { prop = prop; value = items.Nested part }) l has
    (subst (λ ls. Contains ls l) (sym (item_is prop (items.Nested part) (out-Tmpl u).var ∙ ap (λ (h : Held). own_link (out-Tmpl u).var prop h.var ++ h.links) (nested_held part)))
    (contains_right l (own_link (out-Tmpl u).var prop (Some (linked part).var)) (links_of part) (nested_links part inner nested l c)))

alone_held : (e : Typed) (v u : ℕ) (prop : PropId) → variable_alone (out-Node e.node) ≡ Some v
    → Contains (links_of_item (record { prop = prop; value = items.Expr e }) u) (record { holder = u; prop = prop; variable = v })
alone_held e v u prop alone =
    subst (λ ls. Contains ls (record { holder = u; prop = prop; variable = v }))
    (sym (item_is prop (items.Expr e) u ∙ ap (λ (h : Held). own_link u prop h.var ++ h.links) (expr_held e) ∙ ap (λ o. own_link u prop o ++ []) alone))
    (contains_first (record { holder = u; prop = prop; variable = v }) [])

variable_is_alone : (v : ℕ) → variable_alone (out-Node (forms.Variable v)) ≡ Some v
variable_is_alone v = ap (λ n. variable_alone (out-Node n)) (sym (forms.rolls-Variable v)) ∙ ap variable_alone (out-roll-Node (nodes.Variable v))

-- ---- the domains of a side

of_domain : (side : Side) (program : Program) (dom : Dom) (root : Tmpl) (l : Link) → is_of_side side program dom ≡ true → dom.template ≡ Some root
    → Contains (links_of root) l → Contains (domain_links side program dom) l
of_domain side program dom root l is has c =
    subst (λ b. Contains (if b then option_map_or links_of dom.template [] else []) l) (sym is) (subst (λ o. Contains (option_map_or links_of o []) l) (sym has) c)

-- the link of an item that is the variable alone
pub alone_linked : (side : Side) (program : Program) (rel : Rel) (dom : Dom) (v : ℕ) → Contains rel.domains dom → is_of_side side program dom ≡ true → IsItemAlone dom v
    → (l : Link) × Contains (side_links side program rel) l × (l.variable ≡ v)
alone_linked side program rel dom v within is alone =
    let e = alone.is in
    let of = e.of in
    let expression : Typed = record { ty = alone.ty; node = forms.Variable v } in
    let link : Link = record { holder = (out-Tmpl of.template).var; prop = e.item.prop; variable = v } in
    let has : HasItem of.template (record { prop = e.item.prop; value = items.Expr expression }) =
    subst (λ x. HasItem of.template (record { prop = e.item.prop; value = x })) e.is of.has in
    let own : Contains (links_of of.template) link = of_item of.template (record { prop = e.item.prop; value = items.Expr expression }) link has
    (alone_held expression v (out-Tmpl of.template).var e.item.prop (variable_is_alone v)) in
    let root : Contains (links_of of.of.root) link = nested_links of.of.root of.template of.of.nested link own in
    (link, to_flat_map (domain_links side program) rel.domains dom link within (of_domain side program dom of.of.root link is of.of.has root), refl)
