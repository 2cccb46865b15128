pub mod RoomsShown
pub mod CoversLap
pub mod CoversStanding
pub mod TurnsMade
