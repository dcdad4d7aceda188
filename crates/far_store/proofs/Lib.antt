pub mod StoreStateTickets
pub mod Tokens
