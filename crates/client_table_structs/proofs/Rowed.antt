-- The declared types of the table as elements that a proof by hand (`walks`) reads, writes and passes. Assumes nothing.
use Rattle.walks.proofs.Open.{Elem}
use Rattle.walks.proofs.Handing.{elem_of, enum-of}
use Rattle.entries.specs.contracts.Entry as E
use Rattle.entries.proofs.Entry.TheLaws as E'
use Rattle.fees.specs.contracts.Outcome as O
use Rattle.fees.proofs.Outcome.TheLaws as O'
use Rattle.client_table.specs.contracts.Goal as G
use Rattle.client_table.proofs.Goal.TheLaws as G'
use Rattle.client_table.specs.contracts.Latest as L
use Rattle.client_table.proofs.Latest.TheLaws as L'
use Rattle.client_table.specs.contracts.Span as S
use Rattle.client_table.proofs.Span.TheLaws as S'
use Rattle.client_table_structs.specs.contracts.Row as R
use Rattle.client_table_structs.proofs.Row.TheLaws as R'

abbrev pub row_e : Elem
row_e = elem_of R.the_type R'.the_laws R'.lowers R'.the_copy R'.the_plain

abbrev pub span_e : Elem
span_e = elem_of S.the_type S'.the_laws S'.lowers S'.the_copy S'.the_plain

abbrev pub goal_e : Elem
goal_e = enum-of G.the_type G'.the_laws tt G'.lowers G'.the_copy G'.the_plain

abbrev pub latest_e : Elem
latest_e = enum-of L.the_type L'.the_laws tt L'.lowers L'.the_copy L'.the_plain

abbrev pub entry_e : Elem
entry_e = elem_of E.the_type E'.the_laws E'.lowers E'.the_copy E'.the_plain

abbrev pub outcome_e : Elem
outcome_e = elem_of O.the_type O'.the_laws O'.lowers O'.the_copy O'.the_plain
