pub mod Handed
pub mod FormattedHosts
pub mod Receipt
pub mod HonestSteps
pub mod Honest
pub mod AnyHost
