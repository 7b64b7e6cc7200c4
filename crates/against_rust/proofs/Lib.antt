pub mod OpenRuns
pub mod OpenClients
pub mod Hold0
pub mod Hold1
pub mod Hold2
pub mod ClientsHold0
