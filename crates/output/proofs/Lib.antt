-- frames that are these; a tick at which nothing is due
pub mod Ticks
