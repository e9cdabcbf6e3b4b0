use Rattle.std.proofs.Common.{sym, ◌∙◌, ap, length, arith, ◌<◌}
use Rattle.object_tables.specs.Flat.{entry_at}
use Rattle.object_tables.specs.Rows.{row_at}
use Rattle.object_tables.proofs.FlatLemmas.{length-places, length-rows}
use Rattle.object_tables.proofs.tables.Tables.place_count.Goals as goal

pub returns : goal.returns
returns c =
    let l : c.args.o < length c.self.inside.entries.items = omega (
      arith,
      length-rows c.self.inside.entries.items c.self.inside.values c.self.inside.index.items
          c.self.inside.homes.items c.self.inside.arena.links,
      ap length c.self.view_is,
      c.requires,
    ) in
    c.count_of.ensures ∙ ap (λ es. (entry_at es c.args.o).count) c.deref.ensures.value
    ∙ sym (length-places c.self.inside.entries.items c.self.inside.values c.self.inside.index.items c.self.inside.homes.items c.self.inside.arena.links c.args.o l)
    ∙ ap (λ rows. length (row_at rows c.args.o).places) c.self.view_is
