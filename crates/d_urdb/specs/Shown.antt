-- What a record's row shows as plain values.
use Rattle.d_columns.specs.Shown as columns
use Rattle.d_columns.specs.Tiers.{Row}
use Rattle.d_urdb.specs.declared.row.Record.{Record}

-- the header and the cells
abbrev pub row_of : Record → Row
row_of record_ = columns.row_of record_.cells
