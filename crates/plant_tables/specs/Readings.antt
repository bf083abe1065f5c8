-- What a reading of a table is made with.
use Rattle.std.specs.Prelude.{[]}
use Rattle.sql_queries.specs.Selects.{Selects}
use Rattle.plant_tables.specs.declared.readings.Reading.{Reading}

-- the text reads all rows of the table
abbrev pub SelectsAll : Reading → Type 0
SelectsAll reading = Selects reading.table_def [] reading.select.now
