use Rattle.std.specs.Prelude.{ℕ, Bool, map, filter}
use Rattle.std.proofs.Common.{◌∙◌, refl, ap, rules}
use Rattle.std.proofs.lemmas.Fn.{filter_same}
use Rattle.object_tables.proofs.ListLemmas.{filter-map_all}
use Rattle.repair_semantics.specs.Claims.{Held}
use Rattle.slot_claims.specs.declared.held_value.HeldValue.{HeldValue}
use Rattle.slot_claims.specs.HeldValues.{held_by}
use Rattle.slot_claims.specs.Staying.{is_staying, is_kept}
use Rattle.slot_claims.proofs.slot_contents.kept_elements.Goals as goal

pub returns : goal.returns
returns c =
    let repair = c.args.repair.now in
    let stays : Held ℕ → Bool = is_kept repair.target.now.meta (is_staying repair.staying.now) repair.claims.now c.args.o.0 c.args.p.0 in
    let test : HeldValue → Bool = λ h. stays (held_by h) in
    ap (map held_by) (filter_same _ test _ (λ x b f' k. search rules) _ _ c.retain.ensures.filtered)
    ∙ filter-map_all held_by test stays c.into_vec-kept.result.items (λ x within. refl)
    ∙ ap (λ hs. filter stays (map held_by hs)) c.into_vec-kept.ensures ∙ ap (filter stays) c.in_ok-old.ensures
