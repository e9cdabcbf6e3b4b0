use Rattle.std.proofs.Common.{◌≡◌, ◌++◌, ◌∙◌, List, IfOk, map, sym, ap, subst}
use Rattle.std.specs.Prelude.{All}
use Rattle.serde_json.specs.Data.{Data}
use Rattle.serde_json.specs.View.{view}
use Rattle.object_tables.specs.declared.value.ObjId.{ObjId}
use Rattle.object_tables.specs.Ids.{object_ids}
use Rattle.object_tables.specs.Models.{IsLive, partners_at}
use Rattle.model_files.specs.CanonJson.{partner_data}
use Rattle.model_files.proofs.JsonLaws.{all_live, partners_data}
use Rattle.model_files.proofs.json_values.reference_values.Goals as goal

pub id_values-requires : goal.id_values-requires
id_values-requires c =
    let m = c.args.model.now in
    let ns = partners_at m c.args.o.0 c.args.p.0 in
    let listed : c.as_slice.result.now ≡ object_ids ns =
    c.as_slice.ensures ∙ c.in_ok-collect_into.ensures.ok ∙ ap (λ xs. xs ++ c.partners.result) c.new-partners.ensures ∙ c.partners.ensures.list in
    subst (λ (bs : List ObjId). All (λ b. IsLive m b.0) bs) (sym listed) (all_live m ns c.partners.ensures.live)

pub returns : goal.returns
returns c =
    let m = c.args.model.now in
    let ns = partners_at m c.args.o.0 c.args.p.0 in
    let listed : c.as_slice.result.now ≡ object_ids ns =
    c.as_slice.ensures ∙ c.in_ok-collect_into.ensures.ok ∙ ap (λ xs. xs ++ c.partners.result) c.new-partners.ensures ∙ c.partners.ensures.list in
    subst (λ (ds : List Data). IfOk c.id_values.result (λ values. map view values ≡ ds))
    (ap (map (λ (b : ObjId). partner_data m b.0)) listed ∙ partners_data m ns) c.id_values.ensures
