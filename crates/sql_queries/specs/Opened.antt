-- A store as it was just opened.
use Rattle.sqlite.specs.State as store
use Rattle.sql_tables.specs.{IsSettled}
use Rattle.sql_queries.specs.Ordered.{IsRising}

-- A store as it was just opened: it shows what was committed, a stop leaves just that, and rowids rise.
pub record IsNewlyOpened (c : store.State) : Type 0 where
  pub settled : IsSettled c
  pub rising : IsRising c.now
