pub mod WordLaws
pub mod HearingLaws
