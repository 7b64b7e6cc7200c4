-- An entry and a message in words. Assumes nothing.
use Rattle.std.specs.Prelude.{ℕ, List, ◌++◌, codes, Option, Some, None}
use Rattle.std.specs.Fmt.{decimal}
use Rattle.entries.specs.Entries.{operation_of}
use Rattle.entries.specs.declared.Entry.{Entry}
use Rattle.entries.specs.declared.Operation.{Operation}
use Rattle.entries.specs.declared.Operation.TheVariants.{Fee, Refund, Ask}
use Rattle.frames.specs.declared.Progress.{Progress}
use Rattle.frames.specs.declared.Message.{Message}
use Rattle.frames.specs.declared.Message.TheVariants.{Request, Prepare, PrepareOk, Commit, GetState, NewState, StartViewChange, DoViewChange, StartView, Recovery, RecoveryResponse}

abbrev pub operation_name : Operation → List ℕ
operation_name Fee = codes "Fee"
operation_name Refund = codes "Refund"
operation_name Ask = codes "Ask"

abbrev pub entry_words : Entry → List ℕ
entry_words e =
    codes "client " ++ decimal e.client ++ codes ", request " ++ decimal e.request ++ codes ", " ++ operation_name (operation_of e.operation) ++
    codes ", member " ++ decimal e.member ++ codes ", cents " ++ decimal e.cents

-- how far the log has come that a RecoveryResponse carries
abbrev pub state_words : Option Progress → List ℕ
state_words None = codes "no log"
state_words (Some p) = codes "op " ++ decimal p.op.0 ++ codes ", commit " ++ decimal p.commit.0

-- a message: its view first, and then what else it says
abbrev pub message_words : Message → List ℕ
message_words (Request e) = entry_words e
message_words (Prepare v o c e) =
    codes "view " ++ decimal v.0 ++ codes ", op " ++ decimal o.0 ++ codes ", commit " ++ decimal c.0 ++ codes ", " ++ entry_words e
message_words (PrepareOk v o r) = codes "view " ++ decimal v.0 ++ codes ", op " ++ decimal o.0 ++ codes ", from " ++ decimal r
message_words (Commit v c) = codes "view " ++ decimal v.0 ++ codes ", commit " ++ decimal c.0
message_words (GetState r v o) = codes "view " ++ decimal v.0 ++ codes ", op " ++ decimal o.0 ++ codes ", from " ++ decimal r
message_words (NewState v start end c) =
    codes "view " ++ decimal v.0 ++ codes ", start " ++ decimal start.0 ++ codes ", end " ++ decimal end.0 ++ codes ", commit " ++ decimal c.0
message_words (StartViewChange v r) = codes "view " ++ decimal v.0 ++ codes ", from " ++ decimal r
message_words (DoViewChange v r l o c) =
    codes "view " ++ decimal v.0 ++ codes ", from " ++ decimal r ++ codes ", last normal view " ++ decimal l.0 ++ codes ", op " ++ decimal o.0 ++ codes ", commit " ++ decimal c.0
message_words (StartView v o c) = codes "view " ++ decimal v.0 ++ codes ", op " ++ decimal o.0 ++ codes ", commit " ++ decimal c.0
message_words (Recovery r x v) = codes "view " ++ decimal v.0 ++ codes ", from " ++ decimal r ++ codes ", nonce " ++ decimal x
message_words (RecoveryResponse v x r s) =
    codes "view " ++ decimal v.0 ++ codes ", from " ++ decimal r ++ codes ", nonce " ++ decimal x ++ codes ", " ++ state_words s
