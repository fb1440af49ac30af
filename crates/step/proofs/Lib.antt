-- no LSS request alters the parameters
pub mod Altered
-- every change that a service makes suits its code
pub mod Suit
-- the store is read for a reset alone
pub mod Unread
