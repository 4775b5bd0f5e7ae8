pub mod HearersLaws
pub mod Picks
pub mod ContestLaws
pub mod LeastLaws
pub mod RoundLaws
