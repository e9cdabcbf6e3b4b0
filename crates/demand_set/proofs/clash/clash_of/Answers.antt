use Rattle.std.specs.Prelude.{map, length}
use Rattle.std.proofs.Common.{refl}
use Rattle.std.proofs.lemmas.Option.{slice_get_read}
use Rattle.repair_semantics.specs.declared.demand.Clash.{Clash}
use Rattle.demand_set.specs.Listings.{listed_in}
use Rattle.demand_set.proofs.ClashLaws.{told_clash}
use Rattle.demand_set.proofs.clash.clash_of.Goals as goal

pub returns : goal.returns
returns c = λ meta found.
    let demands = c.args.demands.now in
    let clash : Clash = record {
      owner = c.in_ok-owner.owner;
      prop = c.args.found.prop;
      first = c.in_ok-first.first.entry;
      first_item = c.in_ok-first.first.item;
      first_value = c.in_ok-first.first.value;
      second = c.in_ok-second.second.entry;
      second_item = c.in_ok-second.second.item;
      second_value = c.in_ok-second.second.value;
    } in
    told_clash meta c.args.table.now (map (listed_in c.args.table.now) c.args.entries.now) demands c.args.found c.index-demands-found.result c.index-demands-found-2.result clash
    (slice_get_read demands (length demands) c.args.found.first c.index-demands-found.result refl c.requires.first c.index-demands-found.is)
    (slice_get_read demands (length demands) c.args.found.second c.index-demands-found-2.result refl c.requires.second c.index-demands-found-2.is)
    c.in_ok-owner.ensures refl c.in_ok-first.ensures.entry c.in_ok-first.ensures.item c.in_ok-first.ensures.value
    c.in_ok-second.ensures.entry c.in_ok-second.ensures.item c.in_ok-second.ensures.value found
