-- The command that takes the orders of a file.
use Rattle.std.specs.Prelude.{List}
use Rattle.plant_base.specs.declared.commands.Command.TheVariants.{ImportOrders}
use Rattle.plant_base.specs.{Envelope, OrderRow}
use Rattle.plant_orders.specs.declared.importing.ImportMetadata.{ImportMetadata}

-- one command that takes all orders of a file
abbrev pub import : ImportMetadata → List OrderRow → Envelope
import import_metadata orders = record {
  at = import_metadata.stamp.at;
  by = import_metadata.stamp.by;
  note = import_metadata.stamp.note;
  reference = import_metadata.reference;
  body = ImportOrders (record { orders = orders });
}
