-- The code's list is the paper's: that is computed, column by column. Assumes nothing.
use mathlib.Core.Path.{refl}
use Rattle.division.specs.Words.{from, keep}
use Rattle.division.specs.Table.{table_row, rows_of, columns_of}
use Rattle.division.specs.Sheet.{index_at}
use Rattle.label.specs.Text.{text, every, split, value}
use Rattle.label.specs.Label.{mark_of, count_of, ranges, in_range, place_from, scale_with, formed, sheet_named, read_label}
use Rattle.official.specs.List.{utf8, official}
use Rattle.official.specs.Lookup.{sheet_in}
use Rattle.official.proofs.list.entries.Goals as goal

pub returns : goal.returns
unfolding every from keep table_row rows_of columns_of index_at split value mark_of count_of ranges in_range place_from scale_with formed sheet_named read_label text utf8 official sheet_in
returns c = record { names = refl; sheets = refl }
