-- What a statement opens so that antt computes it: all definitions of import, and of those that it rests on; for export, those of Short in place of the ones
-- that count a number's figures down from the number. Assumes nothing.
use Rattle.numbers.specs.Words.{when◌then◌else◌, ◌and◌, ◌or◌}
use Rattle.numbers.specs.Numbers.{big, num, within, over}
use Rattle.numbers.specs.Cells.{cells, packed}
use Rattle.entries.specs.Entries.{operation_ok, entry_of, entry_ok, encode_entry, entries_ok, run_ok}
use Rattle.decimal.specs.Decimal.{value_from, all_figures, leading_zero, is_decimal, number_in}
use Rattle.csv_table.specs.Table.{header_words, kind_word, joined_fields, plain_row}
use Rattle.csv_table.specs.Fields.{stops, stretch, ending, plain_field, quoted_field, field_at_front, row_op_in, kind_in, cents_in, header_in, sense, judged_field, field_told}
use Rattle.csv_table.specs.Reading.{row_from, row_in, scanned_after, scanned, row_entries, table_entries}
use Rattle.csv_table.specs.Calls.{exporting, importing, import_scanned, import_call}
use Rattle.against_rust.specs.Shape.{hex}
use Rattle.recorded_csv.specs.Shape.{lent_area, bad_row, recorded_answer, all_exported, none_exported, import_of, all_imported, none_imported}
use Rattle.recorded_csv.proofs.Short.{short, short_row, short_rows, short_export}

unfoldable pub open-exports : Unit {0}
unfolding when◌then◌else◌ ◌and◌ big num within over cells packed operation_ok entry_of entry_ok entries_ok run_ok header_words kind_word joined_fields plain_row exporting hex lent_area bad_row recorded_answer all_exported none_exported short short_row short_rows short_export
open-exports = tt

unfoldable pub open-imports : Unit {0}
unfolding when◌then◌else◌ ◌and◌ ◌or◌ big within over packed operation_ok encode_entry value_from all_figures leading_zero is_decimal number_in header_words kind_word stops stretch ending plain_field quoted_field field_at_front row_op_in kind_in cents_in header_in sense judged_field field_told row_from row_in scanned_after scanned row_entries table_entries importing import_scanned import_call hex lent_area bad_row recorded_answer import_of all_imported none_imported
open-imports = tt
