-- Tests on the status, and the report of a replica of which none is held. Assumes nothing.
use Rattle.std.specs.Prelude.{Bool, true, false, replicate}
use Rattle.frames.specs.declared.Status.{Status}
use Rattle.frames.specs.declared.Status.TheVariants.{Normal, StateTransfer, ViewChange, Recovering}
use Rattle.state.specs.declared.Report.{Report}
use Rattle.state.specs.declared.Reports.{Reports}

-- tests on the status: Normal
unfoldable pub is_normal : Status → Bool
is_normal Normal = true
is_normal StateTransfer = false
is_normal ViewChange = false
is_normal Recovering = false

-- StateTransfer: waiting for NewState within the view
unfoldable pub is_transfer : Status → Bool
is_transfer Normal = false
is_transfer StateTransfer = true
is_transfer ViewChange = false
is_transfer Recovering = false

-- ViewChange, which catching up is too
unfoldable pub is_changing : Status → Bool
is_changing Normal = false
is_changing StateTransfer = false
is_changing ViewChange = true
is_changing Recovering = false

-- Recovering: back from a crash
unfoldable pub is_recovering : Status → Bool
is_recovering Normal = false
is_recovering StateTransfer = false
is_recovering ViewChange = false
is_recovering Recovering = true

-- no report of a replica
abbrev pub no_report : Report
no_report = record { there = false; full = false; view = record { 0 = 0 }; op = record { 0 = 0 }; commit = record { 0 = 0 } }

-- of anyone
abbrev pub no_reports : Reports
no_reports = record { rows = replicate 7 no_report }
