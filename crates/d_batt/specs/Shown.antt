-- What the crate's types show as plain values.
use Rattle.d_batt.specs.declared.battery.Battery.{Battery}
use Rattle.d_batt.specs.Storage.{Storage}

-- a battery's values
abbrev pub storage_of : Battery → Storage
storage_of b = record {
  floor = b.floor;
  capacity = b.capacity;
  start = b.start;
  end = b.end;
  max_import = b.max_import;
  max_export = b.max_export;
  modes = b.modes;
}
