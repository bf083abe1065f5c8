pub mod ServedRequests
pub mod TrafficChanged
pub mod HeldConnections
pub mod MadeExchanges
pub mod StepsOfConnections
