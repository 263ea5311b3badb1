pub mod Earliest
pub mod FanInsTold
pub mod MembersTold
pub mod ValueMentions
