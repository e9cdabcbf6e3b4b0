use Rattle.object_tables.proofs.FlatLemmas.{ranged_seen, mutual_seen, once_seen}
use Rattle.object_tables.proofs.tables.Tables.look.Goals as goal

pub returns : goal.returns
returns c =
    record {
      ranged = ranged_seen c.self.inside.entries.items c.self.inside.values c.self.inside.index.items c.self.inside.homes.items c.self.inside.arena.links c.args.self.now
          c.self.invariant.0 c.end_count.ensures.simple c.self.view_is;
      both = mutual_seen c.self.inside.entries.items c.self.inside.values c.self.inside.index.items c.self.inside.homes.items c.self.inside.arena.links c.args.self.now
          c.self.invariant.0 c.end_count.ensures.simple c.self.view_is;
      once = once_seen c.self.inside.entries.items c.self.inside.values c.self.inside.index.items c.self.inside.homes.items c.self.inside.arena.links c.args.self.now
          c.self.invariant.0 c.end_count.ensures.simple c.self.view_is;
    }
