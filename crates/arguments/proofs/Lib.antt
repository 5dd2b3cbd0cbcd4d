-- What the verdict on a file tells a call, and the laws that the tests of what is lent rest on.
pub mod FileLaws
pub mod TestLaws
pub mod JobLaws
pub mod VerdictLaws
