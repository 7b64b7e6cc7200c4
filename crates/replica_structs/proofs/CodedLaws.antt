-- Results stay outcomes of the fee rules, 1 to 6: `grew-coded`, by how a call changed the model's book. Assumes nothing.
use mathlib.Core.Path.{sym, subst}
use Rattle.std.specs.Prelude.{ℕ, Bool, List, [], ◌∷◌, ◌++◌}
use Rattle.fees.specs.declared.Outcome.{Outcome}
use Rattle.client_table.proofs.AlikeLaws.{Coded}
use Rattle.model.specs.State.{Book}
use Rattle.model.specs.Book.{results_of, append_all, due_entries, commit_up_to, install}
use Rattle.layout.specs.Shown.{Grew}
use Rattle.layout.specs.Shown.Grew.{more, anew}
use Rattle.layout.proofs.TableLift.{answers-coded}
use Rattle.model.proofs.BookLaws.{commit_all-results, append_all-rest}

coded-append : (os qs : List Outcome) → Coded os → Coded qs → Coded (os ++ qs)
coded-append [] qs c d = d
coded-append (o ∷ os) qs c d = (c.0, coded-append os qs c.1 d)

settled-coded : (b : Book) (j : ℕ) → Coded b.results → Coded (commit_up_to b j).results
unfolding commit_up_to
settled-coded b j c =
    rw (commit_all-results b (due_entries b j))
    (coded-append b.results (results_of b.totals (due_entries b j)) c (answers-coded b.totals (due_entries b j)))

pub grew-coded : (b b' : Book) (installed : Bool) → Coded b.results → Grew b installed b' → Coded b'.results
unfolding install
grew-coded b b' installed c (more es j p q) =
    subst (λ (a : Book). Coded a.results) (sym q) (settled-coded (append_all b es) j (subst Coded (sym (append_all-rest b es).results) c))
grew-coded b b' installed c (anew log j p q) = subst (λ (a : Book). Coded a.results) (sym q) (settled-coded (install b log) j c)
